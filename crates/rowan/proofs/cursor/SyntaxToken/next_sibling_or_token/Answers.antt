use Rattle.rowan.proofs.Steps.{start_next, next_here}
use Rattle.rowan.proofs.cursor.SyntaxToken.next_sibling_or_token.Goals as goal

pub child-requires : goal.child-requires
child-requires c = start_next c.args.self.now c.parent-parent.result.now _ c.parent-parent.ensures c.index.ensures _ c.end.ensures.end

pub returns : goal.returns
returns c = rw (← next_here c.args.self.now c.parent-parent.result.now _ c.parent-parent.ensures c.index.ensures) c.child.ensures.ok
