-- Each path sees what the look asks.
use Rattle.std.proofs.Common.{refl}
use Rattle.rust_grammar.specs.Notation.{row}
use Rattle.rust_grammar.specs.Rule.{there_at}
use Rattle.rust_productions.proofs.Facts.{nothing, saw-so, ◌and◌}
use Rattle.rust_productions.proofs.Looking.{saw-arm, saw-not}
use Rattle.rust_productions.proofs.Seen.{saw-before, saw-told}
use Rattle.rust_productions.proofs.Peeking.{peeks-then}
use Rattle.rust_productions.proofs.grammar.statements.at_more.Goals as goal

pub returns-in-QUESTION-clause-sees : goal.returns-in-QUESTION-clause-sees
unfolding row there_at
returns-in-QUESTION-clause-sees c cond = saw-told (saw-arm c.in-QUESTION.is (c.current.ensures.sees cond) and nothing) refl

pub returns-then-at_pair-clause-sees : goal.returns-then-at_pair-clause-sees
unfolding row there_at
returns-then-at_pair-clause-sees c cond = saw-told (saw-arm c.in-DOT.is (c.current.ensures.sees cond) and saw-before c.current.ensures.peeks.same (saw-so (c.at_pair.ensures.sees cond) c.if-at_pair.true) and nothing) refl

pub returns-then-at_pair-clause-peeks : goal.returns-then-at_pair-clause-peeks
returns-then-at_pair-clause-peeks c = peeks-then c.current.ensures.peeks c.at_pair.ensures.peeks

pub returns-else-at_pair-clause-sees : goal.returns-else-at_pair-clause-sees
unfolding row there_at
returns-else-at_pair-clause-sees c cond = saw-told (saw-arm c.in-DOT.is (c.current.ensures.sees cond) and saw-before c.current.ensures.peeks.same (saw-so (c.at_pair.ensures.sees cond) c.if-at_pair.false) and nothing) refl

pub returns-else-at_pair-clause-peeks : goal.returns-else-at_pair-clause-peeks
returns-else-at_pair-clause-peeks c = peeks-then c.current.ensures.peeks c.at_pair.ensures.peeks

pub returns-in_default-clause-sees : goal.returns-in_default-clause-sees
unfolding row there_at
returns-in_default-clause-sees c cond = saw-told (saw-not c.in_default.not-QUESTION (c.current.ensures.sees cond) and saw-not c.in_default.not-DOT (c.current.ensures.sees cond) and nothing) refl
