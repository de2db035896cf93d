-- The children that were passed, and those that are left.
use Rattle.std.proofs.Common.{◌≡◌, ◌++◌}
use Rattle.tree_search.specs.Elements.{children_of}
use Rattle.tree_search.proofs.bones.children_of.Given as goal

abbrev pub invariant-loop-child : goal.invariant-loop-child
invariant-loop-child l = l.children.items ++ l.child-iterator ≡ children_of l.node
