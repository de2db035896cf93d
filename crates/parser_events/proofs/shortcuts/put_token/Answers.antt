-- The trivia, then the token.
use Rattle.std.proofs.Common.{List, subst}
use Rattle.parser_input.specs.Kind.{raw_of}
use Rattle.parser_events.specs.Sinks.{TakesAll, FailsAtOne}
use Rattle.parser_events.specs.TextSteps.{TextStep}
use Rattle.parser_events.proofs.Putting.{token-steps, token-at}
use Rattle.parser_events.proofs.Sinks.{takes-then, fails_at-after, fails_at-in}
use Rattle.parser_events.proofs.shortcuts.put_token.Goals as goal

pub returns-in-Err-clause-refused : goal.returns-in-Err-clause-refused
returns-in-Err-clause-refused g c =
    let ls = c.args.lexed.now.leaves in
    let is = token-steps ls (raw_of c.args.kind) c.args.n c.args.start c.pending_end-first.result c.token_end-end.result _ c.pending_end-first.ensures.end c.token_end-end.ensures.end c.range_text-text.ensures in
    subst (λ (ss : List TextStep). FailsAtOne g.S.StrSink.takes g.S.StrSink.fails_at c.args.sink.now ss c.in-Err.error c.put_leaves.new.sink) is
    (fails_at-in g.S.StrSink.takes g.S.StrSink.fails_at c.args.sink.now c.put_leaves.new.sink c.in-Err.error _ _ c.in-Err.ensures.refused)

pub returns-in-Err-put_one-clause-refused : goal.returns-in-Err-put_one-clause-refused
returns-in-Err-put_one-clause-refused g c =
    let ls = c.args.lexed.now.leaves in
    let is = token-steps ls (raw_of c.args.kind) c.args.n c.args.start c.pending_end-first.result c.token_end-end.result _ c.pending_end-first.ensures.end c.token_end-end.ensures.end c.range_text-text.ensures in
    subst (λ (ss : List TextStep). FailsAtOne g.S.StrSink.takes g.S.StrSink.fails_at c.args.sink.now ss c.in-Err-put_one.error c.put_one.new.sink) is
    (fails_at-after g.S.StrSink.takes g.S.StrSink.fails_at c.args.sink.now c.put_leaves.new.sink c.put_one.new.sink c.in-Err-put_one.error _ _ c.in-Ok.ensures.taken c.in-Err-put_one.ensures.refused)

pub returns-in-Ok-put_one-clause-taken : goal.returns-in-Ok-put_one-clause-taken
returns-in-Ok-put_one-clause-taken g c =
    let ls = c.args.lexed.now.leaves in
    let kind = raw_of c.args.kind in
    let is = token-steps ls kind c.args.n c.args.start c.pending_end-first.result c.token_end-end.result _ c.pending_end-first.ensures.end c.token_end-end.ensures.end c.range_text-text.ensures in
    record {
      taken = subst (λ (ss : List TextStep). TakesAll g.S.StrSink.takes c.args.sink.now ss c.put_one.new.sink) is
          (takes-then g.S.StrSink.takes c.args.sink.now c.put_leaves.new.sink c.put_one.new.sink _ _ c.in-Ok.ensures.taken c.in-Ok-put_one.ensures.taken);
      at = token-at ls kind c.args.n c.args.start c.pending_end-first.result c.token_end-end.result c.pending_end-first.ensures.end c.token_end-end.ensures.end;
      within = c.token_end-end.ensures.within;
    }
