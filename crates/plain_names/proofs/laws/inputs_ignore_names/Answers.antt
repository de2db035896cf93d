use Rattle.plain_names.proofs.Inputs.{inputs-same}
use Rattle.plain_names.proofs.laws.inputs_ignore_names.Goals as goal

pub returns : goal.returns
returns c = inputs-same
