use Rattle.rowan.proofs.Steps.{start_next, next_here}
use Rattle.rowan.proofs.cursor.SyntaxNode.next_sibling_or_token.Goals as goal

pub child-requires : goal.child-requires
child-requires c = start_next c.args.self.now c.in-Some.parent.now _ c.in-Some.ensures c.index.ensures _ c.end.ensures.end

pub returns-in-Some : goal.returns-in-Some
returns-in-Some c = rw (← next_here c.args.self.now c.in-Some.parent.now _ c.in-Some.ensures c.index.ensures) c.child.ensures.ok
