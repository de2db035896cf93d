-- Elements by the numbers of their annotations: a model of the code.
use Rattle.std.specs.Prelude.{ℕ, nat_eq, List, [], Option, None, Some, Vec}
use Rattle.std.specs.HashMap.{get, HashMap}

abbrev pub items_of : {A Z : Type 0} → Option (Vec A Z) → List A
items_of None = []
items_of (Some v) = v.items

-- the list of a number, empty where there is none
abbrev pub group_of : {A Z S : Type 0} → HashMap ℕ (Vec A Z) S → ℕ → List A
group_of m n = items_of (get nat_eq m n)
