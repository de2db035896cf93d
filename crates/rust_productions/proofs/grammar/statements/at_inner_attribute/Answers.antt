-- Each path sees what the look asks.
use Rattle.std.proofs.Common.{refl}
use Rattle.rust_grammar.specs.Notation.{row}
use Rattle.rust_grammar.specs.Rule.{there_at}
use Rattle.rust_productions.proofs.Facts.{nothing, saw-so, ◌and◌}
use Rattle.rust_productions.proofs.Seen.{saw-always, saw-before, saw-both, saw-told}
use Rattle.rust_productions.proofs.Peeking.{peeks-then}
use Rattle.rust_productions.proofs.grammar.statements.at_inner_attribute.Goals as goal

pub returns-then-not-at-clause-sees : goal.returns-then-not-at-clause-sees
unfolding row there_at
returns-then-not-at-clause-sees c cond = saw-told (saw-so (c.at.ensures.sees cond) c.if-not-at.true and nothing) refl

pub returns-clause-sees : goal.returns-clause-sees
unfolding row there_at
returns-clause-sees c cond = saw-both (saw-so (c.at.ensures.sees cond) c.if-not-at.false) (saw-always (saw-before c.at.ensures.peeks.same (c.at_second.ensures.sees cond)))

pub returns-clause-peeks : goal.returns-clause-peeks
returns-clause-peeks c = peeks-then c.at.ensures.peeks c.at_second.ensures.peeks
