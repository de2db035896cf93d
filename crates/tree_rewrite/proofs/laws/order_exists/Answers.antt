-- The law is a lemma on the definitions.
use Rattle.tree_rewrite.proofs.DepthLemmas.{order_exists}
use Rattle.tree_rewrite.proofs.laws.order_exists.Goals as goal

pub returns : goal.returns
returns c = order_exists
