-- The nodes before the current one are of other kinds.
use Rattle.std.proofs.Common.{◌≡◌, ◌≤◌, length}
use Rattle.std.specs.List.{filter}
use Rattle.syntax_tree.specs.Nodes.{is_of_kind}
use Rattle.syntax_tree.proofs.kinds.next_of_kind.Given as goal

abbrev pub invariant-loop-node : goal.invariant-loop-node
invariant-loop-node l = record {
  may : (goal.iterator-loop-node).can_next l.nodes;
  finite : (goal.iterator-loop-node).is_finite l.nodes;
  same : filter (is_of_kind l.kind) l.fn.nodes ≡ filter (is_of_kind l.kind) l.nodes;
  fewer : length l.nodes ≤ length l.fn.nodes;
}
