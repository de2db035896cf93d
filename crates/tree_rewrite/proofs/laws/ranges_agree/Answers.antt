use Rattle.tree_rewrite.proofs.RangeLemmas.{ranges_agree}
use Rattle.tree_rewrite.proofs.laws.ranges_agree.Goals as goal

pub returns : goal.returns
returns c = ranges_agree
