use Rattle.tree_rewrite.proofs.RootLemmas.{root_stays}
use Rattle.tree_rewrite.proofs.laws.root_stays.Goals as goal

pub returns : goal.returns
returns c = root_stays
