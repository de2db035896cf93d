use Rattle.tree_rewrite.proofs.AheadLemmas.{climbs_end}
use Rattle.tree_rewrite.proofs.laws.climbs_end.Goals as goal

pub returns : goal.returns
returns c = climbs_end
