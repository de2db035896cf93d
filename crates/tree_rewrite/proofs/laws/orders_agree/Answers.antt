-- The law is a lemma on the definitions.
use Rattle.tree_rewrite.proofs.JobLemmas.{orders_agree}
use Rattle.tree_rewrite.proofs.laws.orders_agree.Goals as goal

pub returns : goal.returns
returns c = orders_agree
