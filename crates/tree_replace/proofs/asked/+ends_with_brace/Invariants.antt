-- The children that are left are below the node.
use Rattle.std.proofs.Common.{◌≤◌}
use Rattle.rowan_green.specs.Forest.{forest_count, tree_count}
use Rattle.rowan_green.specs.Term.{forest_of}
use Rattle.tree_replace.proofs.asked.+ends_with_brace.Given as goal

abbrev pub decreases-ends_with_brace : goal.decreases-ends_with_brace
decreases-ends_with_brace l = tree_count l.node.now

abbrev pub invariant-loop-child : goal.invariant-loop-child
invariant-loop-child l = record {
  gives : (goal.iterator-loop-child).can_next l.child-iterator × (goal.iterator-loop-child).is_finite l.child-iterator;
  within : forest_count (forest_of l.child-iterator) ≤ forest_count l.node.forest;
}
