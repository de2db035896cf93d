use Rattle.std.proofs.Common.{length}
use Rattle.parser_events.proofs.Fittings.{Covering}
use Rattle.parser_events.proofs.fits.covers.Given as goal

-- the steps up to here fit
abbrev pub invariant-steps : goal.invariant-steps
invariant-steps l = Covering l.lexed.leaves l.fn.steps l.steps l.next

abbrev pub decreases-steps : goal.decreases-steps
decreases-steps l = length l.steps
