use Rattle.std.proofs.Common.{◌≡◌}
use Rattle.rowan.specs.Place.{start_of, below}
use Rattle.rowan.specs.Around.{children_before, nodes, first}
use Rattle.rowan.proofs.cursor.SyntaxNode.node_before.Given as goal

abbrev pub invariant-loop-index : goal.invariant-loop-index
invariant-loop-index l = record {
  at_end : l.end ≡ start_of (below l.self l.index);
  none_so_far : first (nodes (children_before l.self l.count)) ≡ first (nodes (children_before l.self l.index));
}

abbrev pub decreases-loop-index : goal.decreases-loop-index
decreases-loop-index l = l.index
