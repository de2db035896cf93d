-- The first comes after the next token and touches the second.
use Rattle.rust_grammar.specs.Rule.{there_at}
use Rattle.rust_productions.proofs.Facts.{saw-so}
use Rattle.rust_productions.proofs.Seen.{saw-no-left, saw-no-right, saw-before, saw-pair}
use Rattle.rust_productions.proofs.Looking.{saw-joint}
use Rattle.rust_productions.proofs.Peeking.{peeks-then}
use Rattle.rust_productions.proofs.parser.Parser.at_pair_after.Goals as goal

pub returns-then-not-at_second-clause-sees : goal.returns-then-not-at_second-clause-sees
unfolding there_at
returns-then-not-at_second-clause-sees c cond = saw-no-left (saw-so (c.at_second.ensures.sees cond) c.if-not-at_second.true)

pub returns-then-not-joint_at-clause-sees : goal.returns-then-not-joint_at-clause-sees
unfolding there_at
returns-then-not-joint_at-clause-sees c cond =
    saw-no-right (saw-so (c.at_second.ensures.sees cond) c.if-not-at_second.false) (saw-no-left (saw-before c.at_second.ensures.peeks.same (saw-so (saw-joint cond 1 _ _ c.joint_at.ensures) c.if-not-joint_at.true)))

pub returns-clause-sees : goal.returns-clause-sees
unfolding there_at
returns-clause-sees c cond =
    saw-pair (saw-so (c.at_second.ensures.sees cond) c.if-not-at_second.false) (saw-before c.at_second.ensures.peeks.same (saw-so (saw-joint cond 1 _ _ c.joint_at.ensures) c.if-not-joint_at.false)) (saw-before c.at_second.ensures.peeks.same (c.at_third.ensures.sees cond))

pub returns-clause-peeks : goal.returns-clause-peeks
returns-clause-peeks c = peeks-then c.at_second.ensures.peeks c.at_third.ensures.peeks
