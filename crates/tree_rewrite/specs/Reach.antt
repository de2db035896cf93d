-- Changes that affect elements below an element.
use Rattle.std.specs.Prelude.{ℕ, [], ◌∷◌, length, Bool, false, nat_le}
use Rattle.syntax_tree.specs.Element.{Way}
use Rattle.tree_rewrite.specs.Change.{Change, insert, replace, is_within}

-- the change determines the contents of a gap or slot whose parent is the element at `v` or below it
abbrev pub reaches : Way → Change → Bool
reaches v (insert p i new) = is_within v 0 p
reaches v (replace [] n new single) = false
reaches v (replace (i ∷ p) n new single) = is_within v 0 p

-- the change determines the contents of a gap or slot whose parent is at this depth or deeper
abbrev pub is_deep : ℕ → Change → Bool
is_deep d (insert p i new) = nat_le d (length p)
is_deep d (replace [] n new single) = false
is_deep d (replace (i ∷ p) n new single) = nat_le d (length p)
