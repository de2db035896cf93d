use Rattle.plain_names.proofs.Followed.{followed}
use Rattle.plain_names.proofs.laws.trees_follow_names.Goals as goal

pub returns : goal.returns
returns c = followed
