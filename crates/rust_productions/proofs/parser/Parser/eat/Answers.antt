-- The token is taken where it is there.
use Rattle.rust_grammar.specs.Rule.{begins, there_at}
use Rattle.rust_productions.proofs.ByHand.{reads-opt, reads-none, after-look}
use Rattle.rust_productions.proofs.Facts.{saw-so}
use Rattle.rust_productions.proofs.parser.Parser.eat.Goals as goal

pub returns-then-not-at-clause-reads : goal.returns-then-not-at-clause-reads
unfolding begins there_at
returns-then-not-at-clause-reads c cond = reads-none cond (saw-so (c.at.ensures.sees cond) c.if-not-at.true) c.at.ensures.peeks.same

pub returns-clause-reads : goal.returns-clause-reads
unfolding begins there_at
returns-clause-reads c cond = reads-opt cond (saw-so (c.at.ensures.sees cond) c.if-not-at.false) (after-look cond c.at.ensures.peeks.same (c.take.ensures.reads cond))
