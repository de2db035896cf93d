-- The look is at the tokens left.
use Rattle.rust_productions.proofs.Looking.{saw-joint}
use Rattle.rust_productions.proofs.grammar.operators.at_joint.Goals as goal

pub returns-clause-sees : goal.returns-clause-sees
returns-clause-sees c cond = saw-joint cond 0 _ _ c.joint_at.ensures
