-- A comparison of two lists of children without whitespace and comments, whose answer may depend on two nodes.
use Rattle.std.specs.Prelude.{ℕ, Bool, true, false}
use Rattle.rowan_green.specs.Leaf.{same_leaf}
use Rattle.rowan_green.specs.Forest.{same_tree, tree_count}
use Rattle.rowan_green.specs.Term.{Term}
use Rattle.rowan_green.specs.declared.utility_types.NodeOrToken.TheVariants.{Node, Token}
use Rattle.rust_document.specs.Step.{bare_tree}
use Rattle.rust_document.specs.declared.bare.Comparison.{Comparison}
use Rattle.rust_document.specs.declared.bare.Comparison.TheVariants.{Different, Same, Pending}

-- the answer
abbrev pub outcome : Comparison → Bool
outcome Different = false
outcome Same = true
outcome (Pending a b) = same_tree (bare_tree a) (bare_tree b)

-- how many nodes and leaves the first of the two nodes has
abbrev pub pending_count : Comparison → ℕ
pending_count Different = 0
pending_count Same = 0
pending_count (Pending a b) = tree_count a

-- whether two elements are the same, without the whitespace and comments inside them
abbrev pub same_bare_term : Term → Term → Bool
same_bare_term (Node t) (Node u) = same_tree (bare_tree t) (bare_tree u)
same_bare_term (Node t) (Token m) = false
same_bare_term (Token l) (Node u) = false
same_bare_term (Token l) (Token m) = same_leaf l m
