use Rattle.rust_document.proofs.Histories.{edits-are-openings}
use Rattle.rust_document.proofs.laws.edits_are_openings.Goals as goal

pub returns : goal.returns
returns c = edits-are-openings
