use Rattle.tree_rewrite.proofs.SwapLemmas.{swaps_agree}
use Rattle.tree_rewrite.proofs.laws.swaps_agree.Goals as goal

pub returns : goal.returns
returns c = swaps_agree
