-- The law is a lemma on the definitions.
use Rattle.rust_document.proofs.WellSpacedRewrites.{spaced-silent}
use Rattle.rust_document.proofs.laws.well_spaced_texts_have_no_messages.Goals as goal

pub returns : goal.returns
returns c = spaced-silent
