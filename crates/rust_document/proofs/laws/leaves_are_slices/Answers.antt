-- The law is a lemma on the definitions.
use Rattle.rust_document.proofs.TreeTexts.{leaf-slice}
use Rattle.rust_document.proofs.laws.leaves_are_slices.Goals as goal

pub returns : goal.returns
returns c = leaf-slice
