-- The law is a lemma on the definitions.
use Rattle.rust_document.proofs.TreeTexts.{untouched-kept}
use Rattle.rust_document.proofs.laws.untouched_is_kept.Goals as goal

pub returns : goal.returns
returns c = untouched-kept
