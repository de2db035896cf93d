use Rattle.plain_names.proofs.OneForest.{one}
use Rattle.plain_names.proofs.laws.mapped_forests_are_one.Goals as goal

pub returns : goal.returns
returns c = one
