-- The law is a lemma on the definitions.
use Rattle.rust_document.proofs.CoreTexts.{core-read}
use Rattle.rust_document.proofs.laws.core_texts_are_read.Goals as goal

pub returns : goal.returns
returns c = core-read
