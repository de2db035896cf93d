use Rattle.rowan.proofs.Steps.{start_here, siblings_before_here}
use Rattle.rowan.proofs.cursor.SyntaxNode.prev_sibling.Goals as goal

pub node_before-requires : goal.node_before-requires
node_before-requires c = start_here c.args.self.now c.in-Some.parent.now _ c.in-Some.ensures c.index.ensures _ c.start.ensures.start

pub returns-in-Some : goal.returns-in-Some
returns-in-Some c = rw (siblings_before_here c.args.self.now c.in-Some.parent.now _ c.in-Some.ensures c.index.ensures) c.node_before.ensures
