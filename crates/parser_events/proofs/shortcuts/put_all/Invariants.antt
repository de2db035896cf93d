use Rattle.std.proofs.Common.{map, take}
use Rattle.parser_events.specs.Sinks.{TakesAll}
use Rattle.parser_events.specs.TextSteps.{text_step_of}
use Rattle.parser_events.proofs.shortcuts.put_all.Given as goal

-- the steps up to here were taken
abbrev pub invariant-loop-i : goal.invariant-loop-i
invariant-loop-i g l = TakesAll g.S.StrSink.takes l.fn.sink (map text_step_of (take l.i l.steps)) l.sink
