-- The law is a lemma on the definitions.
use Rattle.rust_document.proofs.TreeTexts.{tree-text}
use Rattle.rust_document.proofs.laws.trees_have_their_texts.Goals as goal

pub returns : goal.returns
returns c = tree-text
