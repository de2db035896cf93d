use Rattle.std.proofs.Common.{length}
use Rattle.parser_events.proofs.Roots.{Rooted}
use Rattle.parser_events.proofs.fits.leaves_root.Given as goal

-- the root is left from here on just as from the front
abbrev pub invariant-steps : goal.invariant-steps
invariant-steps l = Rooted l.fn.steps l.steps l.level

abbrev pub decreases-steps : goal.decreases-steps
decreases-steps l = length l.steps
