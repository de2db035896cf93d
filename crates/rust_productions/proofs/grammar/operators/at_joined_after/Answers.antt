-- A token touches the next one, which is of the kind.
use Rattle.rust_productions.proofs.Facts.{saw-so}
use Rattle.rust_productions.proofs.Looking.{saw-joint}
use Rattle.rust_productions.proofs.Seen.{saw-no-left}
use Rattle.rust_productions.proofs.Words.{saw-both}
use Rattle.rust_productions.proofs.grammar.operators.at_joined_after.Goals as goal

pub returns-then-not-joint_at-clause-sees : goal.returns-then-not-joint_at-clause-sees
returns-then-not-joint_at-clause-sees c cond = saw-no-left (saw-so (saw-joint cond 1 _ _ c.joint_at.ensures) c.if-not-joint_at.true)

pub returns-clause-sees : goal.returns-clause-sees
returns-clause-sees c cond = saw-both (saw-so (saw-joint cond 1 _ _ c.joint_at.ensures) c.if-not-joint_at.false) (c.at_third.ensures.sees cond)
