use Rattle.rowan.proofs.Steps.{start_here, within_here, siblings_before_here}
use Rattle.rowan.proofs.cursor.SyntaxToken.prev_sibling_or_token.Goals as goal

pub child_before-requires : goal.child_before-requires
child_before-requires c = record {
  at_end = start_here c.args.self.now c.parent-parent.result.now _ c.parent-parent.ensures c.index.ensures _ c.start.ensures.start;
  within = within_here c.args.self.now c.parent-parent.result.now _ c.parent-parent.ensures c.index.ensures _ c.green.ensures;
}

pub returns : goal.returns
returns c = rw (siblings_before_here c.args.self.now c.parent-parent.result.now _ c.parent-parent.ensures c.index.ensures) c.child_before.ensures
