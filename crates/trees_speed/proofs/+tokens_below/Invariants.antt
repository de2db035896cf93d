use Rattle.std.proofs.Common.{◌≤◌}
use Rattle.rowan_green.specs.Forest.{forest_count, tree_count}
use Rattle.rowan_green.specs.Term.{forest_of}
use Rattle.trees_speed.proofs.+tokens_below.Given as goal

abbrev pub decreases-tokens_below : goal.decreases-tokens_below
decreases-tokens_below l = tree_count l.node.now

abbrev pub invariant-loop-child : goal.invariant-loop-child
invariant-loop-child l = forest_count (forest_of l.child-iterator) ≤ forest_count l.node.forest
