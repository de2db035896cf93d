-- Each path sees what the look asks.
use Rattle.rust_grammar.specs.Notation.{row}
use Rattle.rust_grammar.specs.Rule.{there_at}
use Rattle.rust_productions.proofs.Facts.{saw-so}
use Rattle.rust_productions.proofs.Seen.{saw-always, saw-before, saw-both, saw-no-left}
use Rattle.rust_productions.proofs.Peeking.{peeks-then}
use Rattle.rust_productions.proofs.grammar.paths.at_colons_before_args.Goals as goal

pub returns-then-not-at_colons-clause-sees : goal.returns-then-not-at_colons-clause-sees
unfolding row there_at
returns-then-not-at_colons-clause-sees c cond = saw-no-left (saw-so (c.at_colons.ensures.sees cond) c.if-not-at_colons.true)

pub returns-clause-sees : goal.returns-clause-sees
unfolding row there_at
returns-clause-sees c cond = saw-both (saw-so (c.at_colons.ensures.sees cond) c.if-not-at_colons.false) (saw-always (saw-before c.at_colons.ensures.peeks.same (c.at_third.ensures.sees cond)))

pub returns-clause-peeks : goal.returns-clause-peeks
returns-clause-peeks c = peeks-then c.at_colons.ensures.peeks c.at_third.ensures.peeks
