-- The pairs that were passed and those that are left decide.
use Rattle.std.proofs.Common.{◌≡◌, ◌≤◌, ◌+◌, ◌*◌, ◌&&◌, max}
use Rattle.rowan_green.specs.Forest.{forest_count, tree_count, same_forest, same_tree}
use Rattle.rowan_green.specs.Term.{forest_of, term_count}
use Rattle.rust_document.specs.Comparing.{outcome, pending_count}
use Rattle.rust_document.specs.Rewrite.{bare}
use Rattle.rust_document.specs.Step.{bare_tree}
use Rattle.rust_document.proofs.bare.+same.Given as goal

abbrev pub decreases-same_nodes : goal.decreases-same_nodes
decreases-same_nodes l = 4 * tree_count l.a

abbrev pub decreases-compared : goal.decreases-compared
decreases-compared l = 4 * forest_count l.a.now.forest + 3

abbrev pub decreases-with_pair : goal.decreases-with_pair
decreases-with_pair l = 4 * max (pending_count l.comparison) (term_count l.x) + 2

abbrev pub decreases-with_nodes : goal.decreases-with_nodes
decreases-with_nodes l = 4 * max (pending_count l.comparison) (tree_count l.a) + 1

abbrev pub invariant-same_nodes-down : goal.invariant-same_nodes-down
invariant-same_nodes-down l = record {
  answer : same_tree (bare_tree l.fn.a) (bare_tree l.fn.b) ≡ same_tree (bare_tree l.one) (bare_tree l.two);
  below : tree_count l.one ≤ tree_count l.fn.a;
}

abbrev pub decreases-same_nodes-down : goal.decreases-same_nodes-down
decreases-same_nodes-down l = tree_count l.one

abbrev pub invariant-compared-children : goal.invariant-compared-children
invariant-compared-children l = record {
  answer : (outcome l.comparison && same_forest (bare (forest_of l.left)) (bare (forest_of l.right))) ≡ same_tree (bare_tree l.a) (bare_tree l.b);
  below : pending_count l.comparison ≤ forest_count l.a.forest;
  within : forest_count (forest_of l.left) ≤ forest_count l.a.forest;
}

abbrev pub decreases-compared-children : goal.decreases-compared-children
decreases-compared-children l = forest_count (forest_of l.left)
