-- The trivia, then the steps of the float.
use Rattle.std.proofs.Common.{List, subst}
use Rattle.parser_events.specs.Sinks.{TakesAll, FailsAtOne}
use Rattle.parser_events.specs.TextSteps.{TextStep}
use Rattle.parser_events.proofs.Putting.{split-steps, split-at}
use Rattle.parser_events.proofs.Sinks.{takes-then, fails_at-after, fails_at-in}
use Rattle.parser_events.proofs.shortcuts.put_split.Goals as goal

pub returns-in-Err-clause-refused : goal.returns-in-Err-clause-refused
returns-in-Err-clause-refused g c =
    let ls = c.args.lexed.now.leaves in
    let is = split-steps ls c.args.ends_in_dot c.args.start c.pending_end-first.result c.start_of-pos.result _ c.pending_end-first.ensures.end c.start_of-pos.ensures c.text_at-text.ensures in
    subst (λ (ss : List TextStep). FailsAtOne g.S.StrSink.takes g.S.StrSink.fails_at c.args.sink.now ss c.in-Err.error c.put_leaves.new.sink) is
    (fails_at-in g.S.StrSink.takes g.S.StrSink.fails_at c.args.sink.now c.put_leaves.new.sink c.in-Err.error _ _ c.in-Err.ensures.refused)

pub returns-in-Err-put_float-clause-refused : goal.returns-in-Err-put_float-clause-refused
returns-in-Err-put_float-clause-refused g c =
    let ls = c.args.lexed.now.leaves in
    let is = split-steps ls c.args.ends_in_dot c.args.start c.pending_end-first.result c.start_of-pos.result _ c.pending_end-first.ensures.end c.start_of-pos.ensures c.text_at-text.ensures in
    subst (λ (ss : List TextStep). FailsAtOne g.S.StrSink.takes g.S.StrSink.fails_at c.args.sink.now ss c.in-Err-put_float.error c.put_float.new.sink) is
    (fails_at-after g.S.StrSink.takes g.S.StrSink.fails_at c.args.sink.now c.put_leaves.new.sink c.put_float.new.sink c.in-Err-put_float.error _ _ c.in-Ok.ensures.taken c.in-Err-put_float.ensures.refused)

pub returns-in-Ok-put_float-clause-taken : goal.returns-in-Ok-put_float-clause-taken
returns-in-Ok-put_float-clause-taken g c =
    let ls = c.args.lexed.now.leaves in
    let is = split-steps ls c.args.ends_in_dot c.args.start c.pending_end-first.result c.start_of-pos.result _ c.pending_end-first.ensures.end c.start_of-pos.ensures c.text_at-text.ensures in
    record {
      taken = subst (λ (ss : List TextStep). TakesAll g.S.StrSink.takes c.args.sink.now ss c.put_float.new.sink) is
          (takes-then g.S.StrSink.takes c.args.sink.now c.put_leaves.new.sink c.put_float.new.sink _ _ c.in-Ok.ensures.taken c.in-Ok-put_float.ensures.taken);
      at = split-at ls c.args.ends_in_dot c.args.start c.pending_end-first.result c.after_one-end.result c.pending_end-first.ensures.end c.after_one-end.ensures.place;
      within = c.after_one-end.ensures.within;
    }
