-- The law is a lemma on the definitions.
use Rattle.rust_document.proofs.Shapes.{kinds-follow}
use Rattle.rust_document.proofs.laws.kinds_follow_inputs.Goals as goal

pub returns : goal.returns
returns c = kinds-follow
