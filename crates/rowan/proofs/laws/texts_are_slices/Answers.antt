-- The law is a lemma on the definitions.
use Rattle.rowan.proofs.PlaceLaws.{texts-slices}
use Rattle.rowan.proofs.laws.texts_are_slices.Goals as goal

pub returns : goal.returns
returns c = texts-slices
