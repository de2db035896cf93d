-- Each path sees what the look asks.
use Rattle.std.proofs.Common.{refl, arith}
use Rattle.rust_grammar.specs.Notation.{row}
use Rattle.rust_grammar.specs.Rule.{there_at}
use Rattle.rust_productions.proofs.Facts.{nothing, saw-so, ◌and◌}
use Rattle.rust_productions.proofs.Seen.{saw-before, saw-told}
use Rattle.rust_productions.proofs.Peeking.{peeks-then, peeks-within}
use Rattle.rust_productions.proofs.grammar.operands.at_method.Goals as goal

pub returns-then-not-at-clause-sees : goal.returns-then-not-at-clause-sees
unfolding row there_at
returns-then-not-at-clause-sees c cond = saw-told (saw-so (c.at.ensures.sees cond) c.if-not-at.true and nothing) refl

pub returns-then-at_second-clause-sees : goal.returns-then-at_second-clause-sees
unfolding row there_at
returns-then-at_second-clause-sees c = λ cond. saw-told (saw-so (c.at.ensures.sees cond) c.if-not-at.false and saw-before c.at.ensures.peeks.same (saw-so (c.at_second.ensures.sees cond) c.if-at_second.true) and nothing) refl

pub returns-then-at_second-clause-peeks : goal.returns-then-at_second-clause-peeks
returns-then-at_second-clause-peeks c = peeks-within (peeks-then c.at.ensures.peeks c.at_second.ensures.peeks) (omega arith)

pub returns-then-at_pair_after-clause-sees : goal.returns-then-at_pair_after-clause-sees
unfolding row there_at
returns-then-at_pair_after-clause-sees c = λ cond. saw-told (saw-so (c.at.ensures.sees cond) c.if-not-at.false and saw-before c.at.ensures.peeks.same (saw-so (c.at_second.ensures.sees cond) c.if-at_second.false) and saw-before c.at.ensures.peeks.same (saw-before c.at_second.ensures.peeks.same (saw-so (c.at_pair_after.ensures.sees cond) c.if-at_pair_after.true)) and nothing) refl

pub returns-then-at_pair_after-clause-peeks : goal.returns-then-at_pair_after-clause-peeks
returns-then-at_pair_after-clause-peeks c = peeks-then c.at.ensures.peeks (peeks-then c.at_second.ensures.peeks c.at_pair_after.ensures.peeks)

pub returns-clause-sees : goal.returns-clause-sees
unfolding row there_at
returns-clause-sees c = λ cond. saw-told (saw-so (c.at.ensures.sees cond) c.if-not-at.false and saw-before c.at.ensures.peeks.same (saw-so (c.at_second.ensures.sees cond) c.if-at_second.false) and saw-before c.at.ensures.peeks.same (saw-before c.at_second.ensures.peeks.same (saw-so (c.at_pair_after.ensures.sees cond) c.if-at_pair_after.false)) and nothing) refl

pub returns-clause-peeks : goal.returns-clause-peeks
returns-clause-peeks c = peeks-then c.at.ensures.peeks (peeks-then c.at_second.ensures.peeks c.at_pair_after.ensures.peeks)
