use Rattle.plain_names.proofs.Renamed.{renamed}
use Rattle.plain_names.proofs.laws.renaming_keeps_tokens.Goals as goal

pub returns : goal.returns
returns c = renamed
