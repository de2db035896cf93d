-- The law is a lemma on the definitions.
use Rattle.tree_search.proofs.InstanceLaws.{instances-match}
use Rattle.tree_search.proofs.laws.instances_match.Goals as goal

pub returns : goal.returns
returns c = instances-match
