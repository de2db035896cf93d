-- The first comes after three tokens and touches the second.
use Rattle.rust_grammar.specs.Rule.{there_at}
use Rattle.rust_productions.proofs.Facts.{saw-so}
use Rattle.rust_productions.proofs.Seen.{saw-no-left, saw-no-right, saw-before, saw-pair}
use Rattle.rust_productions.proofs.Looking.{saw-joint}
use Rattle.rust_productions.proofs.Peeking.{peeks-then}
use Rattle.rust_productions.proofs.parser.Parser.at_fourth_pair.Goals as goal

pub returns-then-not-at_fourth-clause-sees : goal.returns-then-not-at_fourth-clause-sees
unfolding there_at
returns-then-not-at_fourth-clause-sees c cond = saw-no-left (saw-so (c.at_fourth.ensures.sees cond) c.if-not-at_fourth.true)

pub returns-then-not-joint_at-clause-sees : goal.returns-then-not-joint_at-clause-sees
unfolding there_at
returns-then-not-joint_at-clause-sees c cond =
    saw-no-right (saw-so (c.at_fourth.ensures.sees cond) c.if-not-at_fourth.false) (saw-no-left (saw-before c.at_fourth.ensures.peeks.same (saw-so (saw-joint cond 3 _ _ c.joint_at.ensures) c.if-not-joint_at.true)))

pub returns-clause-sees : goal.returns-clause-sees
unfolding there_at
returns-clause-sees c cond =
    saw-pair (saw-so (c.at_fourth.ensures.sees cond) c.if-not-at_fourth.false) (saw-before c.at_fourth.ensures.peeks.same (saw-so (saw-joint cond 3 _ _ c.joint_at.ensures) c.if-not-joint_at.false)) (saw-before c.at_fourth.ensures.peeks.same (c.at_fifth.ensures.sees cond))

pub returns-clause-peeks : goal.returns-clause-peeks
returns-clause-peeks c = peeks-then c.at_fourth.ensures.peeks c.at_fifth.ensures.peeks
