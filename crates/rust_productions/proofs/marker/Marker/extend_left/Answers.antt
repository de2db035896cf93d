-- Only the open nodes change.
use Rattle.rust_productions.proofs.Looking.{same-left, same-spent}
use Rattle.rust_productions.proofs.Moves.{extends}
use Rattle.rust_productions.proofs.marker.Marker.extend_left.Goals as goal

pub returns-clause-extends : goal.returns-clause-extends
returns-clause-extends c = rw (← c.p.view_is) (extends _ _ c.extend_left.ensures.nodes c.extend_left.ensures.same)

pub returns-clause-stays : goal.returns-clause-stays
returns-clause-stays c = record {
  left = rw (← c.p.view_is) (same-left _ _ _ c.extend_left.ensures.same);
  looks = rw (← c.p.view_is) (same-spent _ _ _ c.extend_left.ensures.same);
}
