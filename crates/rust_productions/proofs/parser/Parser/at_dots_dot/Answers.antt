-- The first two touch, and the second touches the third.
use Rattle.std.proofs.Common.{refl, arith}
use Rattle.rust_grammar.specs.Notation.{row}
use Rattle.rust_grammar.specs.Rule.{there_at}
use Rattle.rust_productions.proofs.Facts.{nothing, saw-so, ◌and◌}
use Rattle.rust_productions.proofs.Looking.{saw-joint}
use Rattle.rust_productions.proofs.Peeking.{peeks-then, peeks-within}
use Rattle.rust_productions.proofs.Seen.{saw-before, saw-told}
use Rattle.rust_productions.proofs.parser.Parser.at_dots_dot.Goals as goal

pub returns-then-not-at_pair-clause-sees : goal.returns-then-not-at_pair-clause-sees
unfolding there_at row
returns-then-not-at_pair-clause-sees c cond = saw-told (saw-so (c.at_pair.ensures.sees cond) c.if-not-at_pair.true and nothing) refl

pub returns-then-not-at_third-clause-sees : goal.returns-then-not-at_third-clause-sees
unfolding there_at row
returns-then-not-at_third-clause-sees c cond = saw-told (saw-so (c.at_pair.ensures.sees cond) c.if-not-at_pair.false and saw-before c.at_pair.ensures.peeks.same (saw-so (c.at_third.ensures.sees cond) c.if-not-at_third.true) and nothing) refl

pub returns-then-not-at_third-clause-peeks : goal.returns-then-not-at_third-clause-peeks
returns-then-not-at_third-clause-peeks c = peeks-within (peeks-then c.at_pair.ensures.peeks c.at_third.ensures.peeks) (omega arith)

pub returns-then-joint_at-clause-sees : goal.returns-then-joint_at-clause-sees
unfolding there_at row
returns-then-joint_at-clause-sees c cond = saw-told (saw-so (c.at_pair.ensures.sees cond) c.if-not-at_pair.false and saw-before c.at_pair.ensures.peeks.same (saw-so (c.at_third.ensures.sees cond) c.if-not-at_third.false) and saw-before c.at_pair.ensures.peeks.same (saw-before c.at_third.ensures.peeks.same (saw-so (saw-joint cond 1 _ _ c.joint_at.ensures) c.if-joint_at.true)) and nothing) refl

pub returns-then-joint_at-clause-peeks : goal.returns-then-joint_at-clause-peeks
returns-then-joint_at-clause-peeks c = peeks-within (peeks-then c.at_pair.ensures.peeks c.at_third.ensures.peeks) (omega arith)

pub returns-clause-sees : goal.returns-clause-sees
unfolding there_at row
returns-clause-sees c cond = saw-told (saw-so (c.at_pair.ensures.sees cond) c.if-not-at_pair.false and saw-before c.at_pair.ensures.peeks.same (saw-so (c.at_third.ensures.sees cond) c.if-not-at_third.false) and saw-before c.at_pair.ensures.peeks.same (saw-before c.at_third.ensures.peeks.same (saw-so (saw-joint cond 1 _ _ c.joint_at.ensures) c.if-joint_at.false)) and nothing) refl

pub returns-clause-peeks : goal.returns-clause-peeks
returns-clause-peeks c = peeks-within (peeks-then c.at_pair.ensures.peeks c.at_third.ensures.peeks) (omega arith)
