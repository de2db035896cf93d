use Rattle.std.proofs.Common.{◌∙◌, ap, sym}
use Rattle.rowan.specs.Around.{first}
use Rattle.rowan.proofs.Steps.{start_next}
use Rattle.rowan.proofs.Leaves.{after_step, none_after}
use Rattle.rowan.proofs.cursor.SyntaxToken.next_token.Goals as goal

pub loop-token-init : goal.loop-token-init
loop-token-init c = record {
  at_offset = start_next c.args.self.now c.parent-node.result.now _ c.parent-node.ensures c.index.ensures _ c.end-offset.ensures.end;
  none_so_far = ap first (after_step c.args.self.now c.parent-node.result.now _ c.parent-node.ensures c.index.ensures);
}

pub loop-token-preserved : goal.loop-token-preserved
loop-token-preserved c = record {
  at_offset = start_next c.loop-token.node.now c.in-Some-parent.parent.now _ c.in-Some-parent.ensures c.index-in-loop-token.ensures _ c.end-offset-in-loop-token.ensures.end;
  none_so_far =
      c.loop-token.invariant.none_so_far
      ∙ none_after c.loop-token.node.now c.loop-token.index (sym c.in_default.is ∙ c.in_ok-token.ensures)
      ∙ ap first (after_step c.loop-token.node.now c.in-Some-parent.parent.now _ c.in-Some-parent.ensures c.index-in-loop-token.ensures);
}
