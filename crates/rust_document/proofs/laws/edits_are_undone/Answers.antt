-- The law is a lemma on the definitions.
use Rattle.rust_document.proofs.Undone.{undone}
use Rattle.rust_document.proofs.laws.edits_are_undone.Goals as goal

pub returns : goal.returns
returns c = undone
