use Rattle.rowan.proofs.Lists.{first_from}
use Rattle.rowan.proofs.cursor.SyntaxNode.first_child_or_token.Goals as goal

pub returns : goal.returns
returns c = rw (first_from c.args.self.now 0) c.child.ensures.ok
