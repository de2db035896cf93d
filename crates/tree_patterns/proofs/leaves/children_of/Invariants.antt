-- The children that were passed, and those that are left.
use Rattle.std.proofs.Common.{◌≡◌, ◌++◌}
use Rattle.rowan_green.specs.Term.{children_of}
use Rattle.tree_patterns.proofs.leaves.children_of.Given as goal

abbrev pub invariant-loop-child : goal.invariant-loop-child
invariant-loop-child l = l.children.items ++ l.child-iterator ≡ children_of l.node
