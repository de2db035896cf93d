-- The node is closed, and one is opened around it.
use Rattle.std.proofs.Common.{◌∙◌}
use Rattle.rust_productions.proofs.Looking.{same-left, same-spent}
use Rattle.rust_productions.proofs.Moves.{does-wrap, child}
use Rattle.rust_productions.proofs.marker.Marker.wrap.Goals as goal

pub precede-requires : goal.precede-requires
precede-requires c = child _ _ _ _ _ c.requires c.close-closed.ensures.nodes c.close-closed.ensures.place

pub returns-clause-wraps : goal.returns-clause-wraps
returns-clause-wraps c = does-wrap _ _ _ _ _ _ c.requires c.close-closed.ensures.nodes c.close-closed.ensures.same c.close-closed.ensures.place c.precede.ensures.nodes c.precede.ensures.same

pub returns-clause-stays : goal.returns-clause-stays
returns-clause-stays c = record {
  left = same-left _ _ _ c.precede.ensures.same ∙ same-left _ _ _ c.close-closed.ensures.same;
  looks = same-spent _ _ _ c.precede.ensures.same ∙ same-spent _ _ _ c.close-closed.ensures.same;
}
