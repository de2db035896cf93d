-- The token is taken where it is there.
use Rattle.rust_grammar.specs.Rule.{begins, there_at}
use Rattle.rust_productions.proofs.ByHand.{reads-want, reads-missing, after-look}
use Rattle.rust_productions.proofs.Facts.{saw-so}
use Rattle.rust_productions.proofs.parser.Parser.expect.Goals as goal

pub returns-then-at-clause-reads : goal.returns-then-at-clause-reads
unfolding begins there_at
returns-then-at-clause-reads c cond = reads-want cond (saw-so (c.at.ensures.sees cond) c.if-at.true) (after-look cond c.at.ensures.peeks.same (c.take.ensures.reads cond))

pub returns-clause-reads : goal.returns-clause-reads
unfolding begins there_at
returns-clause-reads c cond = reads-missing cond (saw-so (c.at.ensures.sees cond) c.if-at.false) (after-look cond c.at.ensures.peeks.same (c.error.ensures.reads cond))
