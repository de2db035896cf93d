-- The leaves that were found, and those of the elements on the stack.
use Rattle.std.proofs.Common.{◌≡◌, ◌++◌, reverse}
use Rattle.rowan_green.specs.Forest.{forest_count}
use Rattle.rowan_green.specs.Term.{forest_of}
use Rattle.tree_patterns.specs.Leaves.{leaves}
use Rattle.tree_patterns.proofs.leaves.leaves_of.Given as goal

abbrev pub invariant-stack : goal.invariant-stack
invariant-stack l = leaves l.node.forest ≡ l.leaves.items ++ leaves (forest_of (reverse l.stack.items))

abbrev pub decreases-stack : goal.decreases-stack
decreases-stack l = forest_count (forest_of (reverse l.stack.items))
