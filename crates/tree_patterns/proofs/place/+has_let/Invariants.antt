-- The children that were passed are no conditions with `let`.
use Rattle.std.proofs.Common.{◌≡◌, ◌≤◌}
use Rattle.rowan_green.specs.Forest.{forest_count, tree_count}
use Rattle.rowan_green.specs.Term.{forest_of}
use Rattle.tree_patterns.specs.Places.{has_let_in}
use Rattle.tree_patterns.proofs.place.+has_let.Given as goal

abbrev pub decreases-has_let : goal.decreases-has_let
decreases-has_let l = tree_count l.node.now

abbrev pub invariant-loop-child : goal.invariant-loop-child
invariant-loop-child l = record {
  gives : (goal.iterator-loop-child).can_next l.child-iterator × (goal.iterator-loop-child).is_finite l.child-iterator;
  same : has_let_in l.node.forest ≡ has_let_in (forest_of l.child-iterator);
  within : forest_count (forest_of l.child-iterator) ≤ forest_count l.node.forest;
}
