use Rattle.std.proofs.Common.{◌≡◌, ◌≤◌, ◌+◌, ◌*◌, ◌&&◌, max, drop}
use Rattle.rowan_green.specs.Comparing.{outcome, pending_count}
use Rattle.rowan_green.specs.Forest.{tree_count, forest_count, same_forest, same_tree}
use Rattle.rowan_green.specs.Term.{forest_of, term_count, children_of}
use Rattle.rowan_green.proofs.equality.+same.Given as goal

abbrev pub decreases-same_node : goal.decreases-same_node
decreases-same_node l = 4 * tree_count l.a

abbrev pub decreases-same_children : goal.decreases-same_children
decreases-same_children l = 4 * forest_count (forest_of (children_of l.a.now)) + 3

abbrev pub decreases-with_pair : goal.decreases-with_pair
decreases-with_pair l = 4 * max (pending_count l.comparison) (term_count l.a) + 2

abbrev pub decreases-with_nodes : goal.decreases-with_nodes
decreases-with_nodes l = 4 * max (pending_count l.comparison) (tree_count l.a) + 1

abbrev pub invariant-same_node-down : goal.invariant-same_node-down
invariant-same_node-down l = record {
  answer : same_tree l.fn.a l.fn.b ≡ same_tree l.one l.two;
  below : tree_count l.one ≤ tree_count l.fn.a;
}

abbrev pub decreases-same_node-down : goal.decreases-same_node-down
decreases-same_node-down l = tree_count l.one

abbrev pub invariant-same_children-loop-i : goal.invariant-same_children-loop-i
invariant-same_children-loop-i l = record {
  answer : (outcome l.comparison && same_forest (forest_of (drop l.i (children_of l.a))) (forest_of (drop l.i (children_of l.b)))) ≡ same_forest (forest_of (children_of l.a)) (forest_of (children_of l.b));
  below : pending_count l.comparison ≤ forest_count (forest_of (children_of l.a));
}
