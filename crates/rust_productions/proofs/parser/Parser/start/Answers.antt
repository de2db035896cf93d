-- Only the open nodes change.
use Rattle.rust_productions.proofs.Looking.{same-left, same-spent}
use Rattle.rust_productions.proofs.Moves.{opens}
use Rattle.rust_productions.proofs.parser.Parser.start.Goals as goal

pub returns-clause-opens : goal.returns-clause-opens
returns-clause-opens c = rw (← c.self.view_is) (opens _ _ c.start.ensures.nodes c.start.ensures.same)

pub returns-clause-stays : goal.returns-clause-stays
returns-clause-stays c = record {
  left = rw (← c.self.view_is) (same-left _ _ _ c.start.ensures.same);
  looks = rw (← c.self.view_is) (same-spent _ _ _ c.start.ensures.same);
}
