-- Only the open nodes change.
use Rattle.rust_productions.proofs.Looking.{same-left, same-spent}
use Rattle.rust_productions.proofs.Moves.{closes}
use Rattle.rust_productions.proofs.marker.Marker.complete.Goals as goal

pub returns-clause-closes : goal.returns-clause-closes
returns-clause-closes c = closes _ _ _ c.close.ensures.nodes c.close.ensures.same

pub returns-clause-stays : goal.returns-clause-stays
returns-clause-stays c = record {
  left = same-left _ _ _ c.close.ensures.same;
  looks = same-spent _ _ _ c.close.ensures.same;
}
