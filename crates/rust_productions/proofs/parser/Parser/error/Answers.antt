-- Only the open nodes change.
use Rattle.rust_productions.proofs.Looking.{same-left, same-spent}
use Rattle.rust_productions.proofs.Moves.{does-say}
use Rattle.rust_productions.proofs.ByHand.{reads-say}
use Rattle.rust_productions.proofs.parser.Parser.error.Goals as goal

pub returns-clause-reads : goal.returns-clause-reads
returns-clause-reads c cond = rw (← c.self.view_is) (reads-say cond (does-say _ _ _ c.error.ensures.nodes c.error.ensures.same))

pub returns-clause-stays : goal.returns-clause-stays
returns-clause-stays c = record {
  left = rw (← c.self.view_is) (same-left _ _ _ c.error.ensures.same);
  looks = rw (← c.self.view_is) (same-spent _ _ _ c.error.ensures.same);
}
