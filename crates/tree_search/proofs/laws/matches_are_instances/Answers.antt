-- The law is a lemma on the definitions.
use Rattle.tree_search.proofs.InstanceLaws.{matches-are-instances}
use Rattle.tree_search.proofs.laws.matches_are_instances.Goals as goal

pub returns : goal.returns
returns c = matches-are-instances
