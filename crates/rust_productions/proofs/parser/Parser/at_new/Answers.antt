-- The flag is asked before the kind.
use Rattle.std.proofs.Common.{arith}
use Rattle.rust_grammar.specs.Notation.{row}
use Rattle.rust_grammar.specs.Rule.{there_at}
use Rattle.rust_productions.proofs.Facts.{saw-so}
use Rattle.rust_productions.proofs.Peeking.{stays-then}
use Rattle.rust_productions.proofs.Seen.{saw-always, saw-before, saw-no-left}
use Rattle.rust_productions.proofs.Words.{saw-both}
use Rattle.rust_productions.proofs.parser.Parser.at_new.Goals as goal

pub returns-then-not-at_whole-clause-sees : goal.returns-then-not-at_whole-clause-sees
unfolding there_at row
returns-then-not-at_whole-clause-sees c cond = saw-no-left (saw-so (c.at_whole.ensures.sees cond) c.if-not-at_whole.true)

pub returns-then-not-at_whole-clause-peeks : goal.returns-then-not-at_whole-clause-peeks
returns-then-not-at_whole-clause-peeks c = record { same = c.at_whole.ensures.same; left = c.at_whole.ensures.stays.left; looks = omega (arith, c.at_whole.ensures.stays.looks) }

pub returns-clause-sees : goal.returns-clause-sees
unfolding there_at row
returns-clause-sees c cond = saw-both (saw-so (c.at_whole.ensures.sees cond) c.if-not-at_whole.false) (saw-before c.at_whole.ensures.same (saw-always (c.at.ensures.sees cond)))

pub returns-clause-peeks : goal.returns-clause-peeks
returns-clause-peeks c = stays-then c.at_whole.ensures.same c.at_whole.ensures.stays c.at.ensures.peeks

pub returns-clause-some : goal.returns-clause-some
returns-clause-some c is = omega (arith, c.at_whole.ensures.some c.if-not-at_whole.false, c.at_whole.ensures.stays.left)
