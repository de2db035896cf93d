-- Each step goes on from what those before it made of the sink.
use Rattle.std.proofs.Common.{arith}
use Rattle.std.proofs.lemmas.Result.{on_ok_weaker, IfErr-weaker}
use Rattle.parser_events.proofs.Insides.{inside-begins, inside-goes, inside-refused, inside-ends, inside-end-refused}
use Rattle.parser_events.proofs.shortcuts.put_inside.Goals as goal

pub steps-init : goal.steps-init
steps-init g c = inside-begins g.S.StrSink.takes c.args.lexed.now.leaves c.args.steps c.args.sink.now

pub steps-preserved : goal.steps-preserved
steps-preserved g c =
    inside-goes g.S.StrSink.takes c.args.lexed.now.leaves c.args.steps c.steps.steps c.take_first.new.self c.args.sink.now c.steps.sink c.put_step.new.sink
    c.in-Some.step c.steps.next c.in-Ok.place c.steps.invariant c.in-Some.ensures (omega (arith, c.len.ensures, c.if-len-eq0.false)) c.in-Ok.ensures.taken

pub returns-in-Err-clause-refused : goal.returns-in-Err-clause-refused
returns-in-Err-clause-refused g c =
    inside-refused g.S.StrSink.takes g.S.StrSink.fails_at c.args.lexed.now.leaves c.args.steps c.steps.steps c.take_first.new.self c.args.sink.now c.steps.sink c.put_step.new.sink
    c.in-Err.error c.in-Some.step c.steps.next c.steps.invariant c.in-Some.ensures (omega (arith, c.len.ensures, c.if-len-eq0.false)) c.in-Err.ensures.refused

pub returns-then-len-eq0-clause-taken : goal.returns-then-len-eq0-clause-taken
returns-then-len-eq0-clause-taken g c =
    on_ok_weaker c.put_end.result
    (λ t. inside-ends g.S.StrSink.takes c.args.lexed.now.leaves c.args.steps c.steps.steps c.take_first.new.self c.args.sink.now c.steps.sink c.put_end.new.sink
    c.in-Some.step c.steps.next c.steps.invariant c.in-Some.ensures (omega (arith, c.len.ensures, c.if-len-eq0.true)) t)
    c.put_end.ensures.taken

pub returns-then-len-eq0-clause-refused : goal.returns-then-len-eq0-clause-refused
returns-then-len-eq0-clause-refused g c =
    IfErr-weaker c.put_end.result _ _
    (λ e r. inside-end-refused g.S.StrSink.takes g.S.StrSink.fails_at c.args.lexed.now.leaves c.args.steps c.steps.steps c.take_first.new.self c.args.sink.now c.steps.sink c.put_end.new.sink e
    c.in-Some.step c.steps.next c.steps.invariant c.in-Some.ensures (omega (arith, c.len.ensures, c.if-len-eq0.true)) r)
    c.put_end.ensures.refused
