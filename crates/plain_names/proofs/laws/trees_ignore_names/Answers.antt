use Rattle.plain_names.proofs.Mapped.{ignores-names}
use Rattle.plain_names.proofs.laws.trees_ignore_names.Goals as goal

pub returns : goal.returns
returns c = ignores-names
