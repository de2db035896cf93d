-- Each step goes on from what those before it made of the sink.
use Rattle.std.proofs.Common.{◌<◌, List, length, map, sym, subst, inl, arith}
use Rattle.std.proofs.lemmas.List.{take_all}
use Rattle.parser_events.specs.Sinks.{TakesAll, FailsAtOne}
use Rattle.parser_events.specs.TextSteps.{TextStep, text_step_of}
use Rattle.parser_events.proofs.Sinks.{map-from, map-more, takes-then, takes-one, fails_at-after}
use Rattle.parser_events.specs.declared.str_step.StrStep.{StrStep}
use Rattle.parser_events.proofs.shortcuts.put_all.Goals as goal

pub loop-i-preserved : goal.loop-i-preserved
loop-i-preserved g c =
    let takes = g.S.StrSink.takes in
    let steps = c.args.steps.now in
    let within : c.loop-i.i < length steps = omega arith in
    subst (λ (ss : List TextStep). TakesAll takes c.args.sink.now ss c.step.new.self) (sym (map-more steps c.loop-i.i _ within))
    (takes-then takes c.args.sink.now c.loop-i.sink c.step.new.self _ _ c.loop-i.invariant (takes-one takes c.loop-i.sink c.step.new.self _ c.in-Ok.ensures.taken))

pub returns-clause-taken : goal.returns-clause-taken
returns-clause-taken g c =
    let steps = c.args.steps.now in
    subst (λ (ss : List StrStep). TakesAll g.S.StrSink.takes c.args.sink.now (map text_step_of ss) c.loop-i.sink) (take_all c.loop-i.i steps (omega arith)) c.loop-i.invariant

pub returns-in-Err-clause-refused : goal.returns-in-Err-clause-refused
returns-in-Err-clause-refused g c =
    let takes = g.S.StrSink.takes in
    let fails_at = g.S.StrSink.fails_at in
    let steps = c.args.steps.now in
    let within : c.loop-i.i < length steps = omega arith in
    subst (λ (ss : List TextStep). FailsAtOne takes fails_at c.args.sink.now ss c.in-Err.error c.step.new.self) (sym (map-from steps c.loop-i.i _ within))
    (fails_at-after takes fails_at c.args.sink.now c.loop-i.sink c.step.new.self c.in-Err.error _ _ c.loop-i.invariant (inl c.in-Err.ensures.refused))
