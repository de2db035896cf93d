use Rattle.std.proofs.Common.{length}
use Rattle.parser_events.proofs.Insides.{Inside}
use Rattle.parser_events.proofs.shortcuts.put_inside.Given as goal

-- the steps up to here were put
abbrev pub invariant-steps : goal.invariant-steps
invariant-steps g l = Inside g.S.StrSink.takes l.lexed.leaves l.fn.steps l.fn.sink l.steps l.next l.sink

abbrev pub decreases-steps : goal.decreases-steps
decreases-steps g l = length l.steps
