use Rattle.std.proofs.Common.{◌≡◌, ◌-◌, ◌≤◌}
use Rattle.std.specs.List.{filter}
use Rattle.rowan.specs.Place.{start_of, below}
use Rattle.rowan.specs.Around.{children_from, nodes, first}
use Rattle.rowan.specs.Pointer.{spans}
use Rattle.rowan.proofs.cursor.SyntaxNode.node_spanning.Given as goal

abbrev pub invariant-loop-index : goal.invariant-loop-index
invariant-loop-index l = record {
  at_offset : l.offset ≡ start_of (below l.self l.index);
  siblings_after : l.fn.from ≤ l.index;
  none_so_far : first (filter (spans l.range.start.0 l.range.end.0) (nodes (children_from l.self l.fn.from))) ≡ first (filter (spans l.range.start.0 l.range.end.0) (nodes (children_from l.self l.index)));
}

abbrev pub decreases-loop-index : goal.decreases-loop-index
decreases-loop-index l = l.count - l.index
