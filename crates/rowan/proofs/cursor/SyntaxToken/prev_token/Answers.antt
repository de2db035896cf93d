use Rattle.std.proofs.Common.{◌∙◌, ap, sym}
use Rattle.rowan.specs.Around.{first}
use Rattle.rowan.proofs.Steps.{start_here, within_here}
use Rattle.rowan.proofs.Leaves.{before_step, none_siblings_before}
use Rattle.rowan.proofs.cursor.SyntaxToken.prev_token.Goals as goal

pub loop-token-init : goal.loop-token-init
loop-token-init c = record {
  at_end = start_here c.args.self.now c.parent-node.result.now _ c.parent-node.ensures c.index-count.ensures _ c.start-end.ensures.start;
  within = within_here c.args.self.now c.parent-node.result.now _ c.parent-node.ensures c.index-count.ensures _ c.green.ensures;
  none_so_far = ap first (before_step c.args.self.now c.parent-node.result.now _ c.parent-node.ensures c.index-count.ensures);
}

pub loop-token-preserved : goal.loop-token-preserved
loop-token-preserved c = record {
  at_end = start_here c.loop-token.node.now c.in-Some-parent.parent.now _ c.in-Some-parent.ensures c.index-count-in-loop-token.ensures _ c.start-end-in-loop-token.ensures.start;
  within = within_here c.loop-token.node.now c.in-Some-parent.parent.now _ c.in-Some-parent.ensures c.index-count-in-loop-token.ensures _ c.green-in-loop-token.ensures;
  none_so_far =
      c.loop-token.invariant.none_so_far
      ∙ none_siblings_before c.loop-token.node.now c.loop-token.count (sym c.in_default.is ∙ c.in_ok-token.ensures)
      ∙ ap first (before_step c.loop-token.node.now c.in-Some-parent.parent.now _ c.in-Some-parent.ensures c.index-count-in-loop-token.ensures);
}
