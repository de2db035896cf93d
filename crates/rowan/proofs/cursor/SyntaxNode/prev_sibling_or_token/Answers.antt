use Rattle.rowan.proofs.Steps.{start_here, within_here, siblings_before_here}
use Rattle.rowan.proofs.cursor.SyntaxNode.prev_sibling_or_token.Goals as goal

pub child_before-requires : goal.child_before-requires
child_before-requires c = record {
  at_end = start_here c.args.self.now c.in-Some.parent.now _ c.in-Some.ensures c.index.ensures _ c.start.ensures.start;
  within = within_here c.args.self.now c.in-Some.parent.now _ c.in-Some.ensures c.index.ensures _ c.green.ensures;
}

pub returns-in-Some : goal.returns-in-Some
returns-in-Some c = rw (siblings_before_here c.args.self.now c.in-Some.parent.now _ c.in-Some.ensures c.index.ensures) c.child_before.ensures
