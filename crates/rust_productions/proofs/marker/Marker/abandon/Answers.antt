-- Only the open nodes change.
use Rattle.rust_productions.proofs.Looking.{same-left, same-spent}
use Rattle.rust_productions.proofs.Moves.{leaves}
use Rattle.rust_productions.proofs.marker.Marker.abandon.Goals as goal

pub returns-clause-leaves : goal.returns-clause-leaves
returns-clause-leaves c = rw (← c.p.view_is) (leaves _ _ c.abandon.ensures.nodes c.abandon.ensures.same)

pub returns-clause-stays : goal.returns-clause-stays
returns-clause-stays c = record {
  left = rw (← c.p.view_is) (same-left _ _ _ c.abandon.ensures.same);
  looks = rw (← c.p.view_is) (same-spent _ _ _ c.abandon.ensures.same);
}
