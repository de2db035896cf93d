-- The law is a lemma on the definitions.
use Rattle.rust_document.proofs.WellSpacedRewrites.{spaced-accepted}
use Rattle.rust_document.proofs.laws.well_spaced_rewrites_are_accepted.Goals as goal

pub returns : goal.returns
returns c = spaced-accepted
