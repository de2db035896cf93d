-- The law is a lemma on the definitions.
use Rattle.annotated_elements.proofs.EndLemmas.{ends_are_one}
use Rattle.annotated_elements.proofs.laws.ends_are_one.Goals as goal

pub returns : goal.returns
returns c = ends_are_one
