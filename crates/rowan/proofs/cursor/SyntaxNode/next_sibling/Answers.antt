use Rattle.rowan.proofs.Steps.{start_next, after_here}
use Rattle.rowan.proofs.cursor.SyntaxNode.next_sibling.Goals as goal

pub node_from-requires : goal.node_from-requires
node_from-requires c = start_next c.args.self.now c.in-Some.parent.now _ c.in-Some.ensures c.index.ensures _ c.end.ensures.end

pub returns-in-Some : goal.returns-in-Some
returns-in-Some c = rw (after_here c.args.self.now c.in-Some.parent.now _ c.in-Some.ensures c.index.ensures) c.node_from.ensures.ok
