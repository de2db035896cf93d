use Rattle.std.proofs.Common.{◌≡◌, ◌++◌}
use Rattle.tree_indent.specs.Mapped.{child_nodes}
use Rattle.tree_indent.proofs.mapped.child_nodes.Given as goal

abbrev pub invariant-loop-child : goal.invariant-loop-child
invariant-loop-child l = record {
  can : (goal.iterator-loop-child).can_next l.child-iterator;
  finite : (goal.iterator-loop-child).is_finite l.child-iterator;
  same : l.nodes.items ++ l.child-iterator ≡ child_nodes l.node;
}
