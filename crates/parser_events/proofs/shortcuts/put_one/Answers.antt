use Rattle.std.proofs.Common.{inl}
use Rattle.parser_events.proofs.Sinks.{takes-one}
use Rattle.parser_events.proofs.shortcuts.put_one.Goals as goal

pub returns-in-Ok-clause-taken : goal.returns-in-Ok-clause-taken
returns-in-Ok-clause-taken g c = takes-one g.S.StrSink.takes c.args.sink.now c.step.new.self _ c.in-Ok.ensures.taken

pub returns-in-Err-clause-refused : goal.returns-in-Err-clause-refused
returns-in-Err-clause-refused g c = inl c.in-Err.ensures.refused
