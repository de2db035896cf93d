-- The law is a lemma on the definitions.
use Rattle.annotated_elements.proofs.FoundLemmas.{origins_agree}
use Rattle.annotated_elements.proofs.laws.origins_agree.Goals as goal

pub returns : goal.returns
returns c = origins_agree
