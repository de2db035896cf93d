-- The law is a lemma on the definitions.
use Rattle.rust_document.proofs.Closed.{document-closed}
use Rattle.rust_document.proofs.laws.token_trees_are_closed.Goals as goal

pub returns : goal.returns
returns c = document-closed
