-- The root's first step, then those inside it.
use Rattle.std.proofs.Common.{List, [], ◌∷◌, subst}
use Rattle.parser_input.specs.Kind.{raw_of}
use Rattle.parser_events.specs.Sinks.{TakesAll, FailsAtOne}
use Rattle.parser_events.specs.TextSteps.{TextStep, Enter}
use Rattle.parser_events.proofs.Insides.{around-is}
use Rattle.parser_events.proofs.Sinks.{takes-then, fails_at-after}
use Rattle.parser_events.proofs.shortcuts.put_output.Goals as goal

pub returns-in-Err-put_inside-clause-refused : goal.returns-in-Err-put_inside-clause-refused
returns-in-Err-put_inside-clause-refused g c =
    let is = around-is c.args.lexed.now.leaves c.iter-steps.result c.take_first.new.self c.in-Some.first c.args.output.now.steps (raw_of c.in-Some-entered.kind) c.iter-steps.ensures c.in-Some.ensures c.in-Some-entered.ensures in
    subst (λ (x : List TextStep). FailsAtOne g.S.StrSink.takes g.S.StrSink.fails_at c.args.sink.now x c.in-Err-put_inside.error c.put_inside.new.sink) is
    (fails_at-after g.S.StrSink.takes g.S.StrSink.fails_at c.args.sink.now c.put_one.new.sink c.put_inside.new.sink c.in-Err-put_inside.error (Enter (raw_of c.in-Some-entered.kind) ∷ []) _ c.in-Ok.ensures.taken c.in-Err-put_inside.ensures.refused)

pub returns-in-Ok-put_inside-clause-taken : goal.returns-in-Ok-put_inside-clause-taken
returns-in-Ok-put_inside-clause-taken g c =
    let is = around-is c.args.lexed.now.leaves c.iter-steps.result c.take_first.new.self c.in-Some.first c.args.output.now.steps (raw_of c.in-Some-entered.kind) c.iter-steps.ensures c.in-Some.ensures c.in-Some-entered.ensures in
    subst (λ (x : List TextStep). TakesAll g.S.StrSink.takes c.args.sink.now x c.put_inside.new.sink) is
    (takes-then g.S.StrSink.takes c.args.sink.now c.put_one.new.sink c.put_inside.new.sink (Enter (raw_of c.in-Some-entered.kind) ∷ []) _ c.in-Ok.ensures.taken c.in-Ok-put_inside.ensures.taken)
