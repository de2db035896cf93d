use Rattle.plain_names.proofs.Followed.{elements-steps}
use Rattle.plain_names.proofs.laws.elements_are_steps.Goals as goal

pub returns : goal.returns
returns c = elements-steps
