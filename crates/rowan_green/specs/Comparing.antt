-- A comparison of two lists whose answer may depend on two nodes.
use Rattle.std.specs.Prelude.{ℕ, Bool, true, false}
use Rattle.rowan_green.specs.Forest.{same_tree, tree_count}
use Rattle.rowan_green.specs.declared.equality.Comparison.{Comparison}
use Rattle.rowan_green.specs.declared.equality.Comparison.TheVariants.{Different, Same, Pending}

-- the answer
abbrev pub outcome : Comparison → Bool
outcome Different = false
outcome Same = true
outcome (Pending a b) = same_tree a b

-- how many nodes and leaves the first of the two nodes has
abbrev pub pending_count : Comparison → ℕ
pending_count Different = 0
pending_count Same = 0
pending_count (Pending a b) = tree_count a
