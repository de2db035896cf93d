use Rattle.std.proofs.Common.{slice_range}
use Rattle.parser_input.specs.Lexed.{leaves_of}
use Rattle.parser_events.specs.Sinks.{TakesAll}
use Rattle.parser_events.specs.TextSteps.{leaf_steps}
use Rattle.parser_events.proofs.shortcuts.put_each.Given as goal

-- the leaves up to here were taken
abbrev pub invariant-loop-i : goal.invariant-loop-i
invariant-loop-i g l = TakesAll g.S.StrSink.takes l.fn.sink (leaf_steps (slice_range (leaves_of l.lexed.leaves) l.fn.start l.i)) l.sink
