use Rattle.plain_names.proofs.Shebangs.{attributes-same}
use Rattle.plain_names.proofs.laws.attributes_ignore_names.Goals as goal

pub returns : goal.returns
returns c = attributes-same
