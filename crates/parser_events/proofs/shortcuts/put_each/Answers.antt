-- Each leaf goes on from what those before it made of the sink.
use Rattle.std.proofs.Common.{◌≡◌, ◌<◌, ◌≤◌, ℕ, List, length, slice_range, sym, subst, inl, arith}
use Rattle.parser_input.specs.Lexed.{leaves_of}
use Rattle.parser_events.specs.Sinks.{TakesAll, FailsAtOne}
use Rattle.parser_events.specs.TextSteps.{TextStep, leaf_steps}
use Rattle.parser_events.proofs.Putting.{leaf-more, leaf-from}
use Rattle.parser_events.proofs.Sinks.{takes-then, takes-one, fails_at-after}
use Rattle.parser_events.proofs.shortcuts.put_each.Goals as goal

pub loop-i-preserved : goal.loop-i-preserved
loop-i-preserved g c =
    let takes = g.S.StrSink.takes in
    let ls = c.args.lexed.now.leaves in
    let order : c.args.start ≤ c.loop-i.i = omega arith in
    let within : c.loop-i.i < length ls = omega arith in
    subst (λ (ss : List TextStep). TakesAll takes c.args.sink.now ss c.step.new.self)
    (sym (leaf-more ls c.args.start c.loop-i.i _ _ order within c.kind.ensures c.text.ensures))
    (takes-then takes c.args.sink.now c.loop-i.sink c.step.new.self _ _ c.loop-i.invariant (takes-one takes c.loop-i.sink c.step.new.self _ c.in-Ok.ensures.taken))

pub returns-in-Err-clause-refused : goal.returns-in-Err-clause-refused
returns-in-Err-clause-refused g c =
    let takes = g.S.StrSink.takes in
    let fails_at = g.S.StrSink.fails_at in
    let ls = c.args.lexed.now.leaves in
    let order : c.args.start ≤ c.loop-i.i = omega arith in
    let within : c.loop-i.i < length ls = omega arith in
    subst (λ (ss : List TextStep). FailsAtOne takes fails_at c.args.sink.now ss c.in-Err.error c.step.new.self) (sym (leaf-from ls c.args.start c.loop-i.i c.args.end _ _ order (omega arith) within c.kind.ensures c.text.ensures))
    (fails_at-after takes fails_at c.args.sink.now c.loop-i.sink c.step.new.self c.in-Err.error _ _ c.loop-i.invariant (inl c.in-Err.ensures.refused))

pub returns-clause-taken : goal.returns-clause-taken
returns-clause-taken g c =
    let ls = leaves_of c.args.lexed.now.leaves in
    subst (λ (n : ℕ). TakesAll g.S.StrSink.takes c.args.sink.now (leaf_steps (slice_range ls c.args.start n)) c.loop-i.sink)
    (let e : c.loop-i.i ≡ c.args.end = omega (arith, c.requires.order) in e) c.loop-i.invariant
