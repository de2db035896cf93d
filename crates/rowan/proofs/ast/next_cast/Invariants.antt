use Rattle.std.proofs.Common.{◌≡◌, ◌≤◌, length}
use Rattle.std.specs.List.{filter}
use Rattle.rowan.specs.Cast.{can}
use Rattle.rowan.proofs.ast.next_cast.Given as goal

abbrev pub invariant-loop-node : goal.invariant-loop-node
invariant-loop-node g l = record {
  may : (goal.iterator-loop-node g).can_next l.nodes;
  finite : (goal.iterator-loop-node g).is_finite l.nodes;
  same : filter (can g.N.Language.Language.from_raw g.N.AstNode.casts) l.fn.nodes ≡ filter (can g.N.Language.Language.from_raw g.N.AstNode.casts) l.nodes;
  fewer : length l.nodes ≤ length l.fn.nodes;
}
