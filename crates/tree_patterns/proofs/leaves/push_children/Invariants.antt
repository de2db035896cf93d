-- The stack, with the children that are left.
use Rattle.std.proofs.Common.{◌≡◌, ◌++◌, reverse, vec_len}
use Rattle.rowan_green.specs.Term.{children_of}
use Rattle.tree_patterns.proofs.leaves.push_children.Given as goal

abbrev pub invariant-children : goal.invariant-children
invariant-children l = l.initial.stack.items ++ reverse (children_of l.node) ≡ l.stack.items ++ reverse l.children.items

abbrev pub decreases-children : goal.decreases-children
decreases-children l = vec_len l.children
