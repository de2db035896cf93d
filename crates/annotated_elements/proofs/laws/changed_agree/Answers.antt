-- The law is a lemma on the definitions.
use Rattle.annotated_elements.proofs.FoundLemmas.{changed_agree}
use Rattle.annotated_elements.proofs.laws.changed_agree.Goals as goal

pub returns : goal.returns
returns c = changed_agree
