-- When an element has no gap beside it.
use Rattle.std.specs.Prelude.{◌≡◌, ℕ, List, None, codes}
use Rattle.syntax_tree.specs.Element.{Element}
use Rattle.syntax_tree.specs.Handle.{parent_of}
use Rattle.syntax_tree.specs.declared.error.PositionError.{PositionError}
use Rattle.syntax_tree.specs.declared.error.PositionError.TheVariants.{NoParent, NoMemory}

-- `NoParent` only if there is no parent; `NoMemory` at any point
abbrev pub RefusesPosition : Element → PositionError → Type 0
RefusesPosition e NoParent = parent_of e ≡ None
RefusesPosition e NoMemory = Unit {0}

abbrev pub message_of : PositionError → List ℕ
message_of NoParent = codes "the element has no parent"
message_of NoMemory = codes "out of memory"
