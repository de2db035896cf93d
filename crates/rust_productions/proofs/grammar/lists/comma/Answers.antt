-- The comma is taken where it is there.
use Rattle.rust_grammar.specs.Notation.{row}
use Rattle.rust_grammar.specs.Rule.{begins, there_at}
use Rattle.rust_productions.proofs.ByHand.{reads-or, reads-else, reads-when, reads-nothing, after-look}
use Rattle.rust_productions.proofs.Facts.{saw-so}
use Rattle.rust_productions.proofs.Seen.{saw-always}
use Rattle.rust_productions.proofs.grammar.lists.comma.Goals as goal

pub returns-then-at-clause-reads : goal.returns-then-at-clause-reads
unfolding begins row there_at
returns-then-at-clause-reads c cond = reads-or cond (saw-so (c.at.ensures.sees cond) c.if-at.true) (after-look cond c.at.ensures.peeks.same (c.take.ensures.reads cond))

pub returns-then-at-2-clause-reads : goal.returns-then-at-2-clause-reads
unfolding begins row there_at
returns-then-at-2-clause-reads c cond =
    reads-else cond (saw-so (c.at.ensures.sees cond) c.if-at.false)
    (after-look cond c.at.ensures.peeks.same (reads-or cond (saw-always (saw-so (c.at-2.ensures.sees cond) c.if-at-2.true)) (reads-when cond (reads-nothing cond c.at-2.ensures.peeks.same))))

pub returns-clause-reads : goal.returns-clause-reads
unfolding begins row there_at
returns-clause-reads c cond =
    reads-else cond (saw-so (c.at.ensures.sees cond) c.if-at.false)
    (after-look cond c.at.ensures.peeks.same (reads-else cond (saw-always (saw-so (c.at-2.ensures.sees cond) c.if-at-2.false)) (after-look cond c.at-2.ensures.peeks.same (c.error.ensures.reads cond))))
