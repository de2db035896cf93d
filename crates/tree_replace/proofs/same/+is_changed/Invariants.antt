-- The children that are left are below the node.
use Rattle.std.proofs.Common.{◌≤◌}
use Rattle.rowan_green.specs.Forest.{forest_count, tree_count}
use Rattle.rowan_green.specs.Term.{forest_of}
use Rattle.tree_replace.proofs.same.+is_changed.Given as goal

abbrev pub decreases-is_changed : goal.decreases-is_changed
decreases-is_changed l = tree_count l.old.now

abbrev pub invariant-loop-child : goal.invariant-loop-child
invariant-loop-child l = record {
  gives : (goal.iterator-loop-child).can_next l.child-iterator × (goal.iterator-loop-child).is_finite l.child-iterator;
  within : forest_count (forest_of l.child-iterator) ≤ forest_count l.old.forest;
}
