use Rattle.spaced_core.proofs.SpacedLeaves.{spaced-read}
use Rattle.spaced_core.proofs.laws.spaced_leaves_are_read.Goals as goal

pub returns : goal.returns
returns c = spaced-read
