-- The trivia outside the node, its beginning, and the trivia inside it.
use Rattle.std.proofs.Common.{List, [], ◌∷◌, slice_range, subst}
use Rattle.parser_input.specs.Kind.{raw_of}
use Rattle.parser_input.specs.Lexed.{leaves_of}
use Rattle.parser_events.specs.Sinks.{TakesAll, FailsAtOne}
use Rattle.parser_events.specs.TextSteps.{TextStep, Enter, leaf_steps}
use Rattle.parser_events.proofs.Putting.{enter-steps, enter-at}
use Rattle.parser_events.proofs.Sinks.{takes-then, fails_at-after, fails_at-in}
use Rattle.parser_events.proofs.shortcuts.put_enter.Goals as goal

pub returns-in-Err-clause-refused : goal.returns-in-Err-clause-refused
returns-in-Err-clause-refused g c =
    let ls = c.args.lexed.now.leaves in
    let is = enter-steps ls (raw_of c.args.kind) c.args.start c.attached_from-first.result c.pending_end-end.result c.pending_end-end.ensures.end c.attached_from-first.ensures.inside c.attached_from-first.ensures.after c.attached_from-first.ensures.before in
    subst (λ (ss : List TextStep). FailsAtOne g.S.StrSink.takes g.S.StrSink.fails_at c.args.sink.now ss c.in-Err.error c.put_leaves.new.sink) is
    (fails_at-in g.S.StrSink.takes g.S.StrSink.fails_at c.args.sink.now c.put_leaves.new.sink c.in-Err.error _ _ c.in-Err.ensures.refused)

pub returns-in-Err-put_one-clause-refused : goal.returns-in-Err-put_one-clause-refused
returns-in-Err-put_one-clause-refused g c =
    let takes = g.S.StrSink.takes in
    let fails_at = g.S.StrSink.fails_at in
    let ls = c.args.lexed.now.leaves in
    let is = enter-steps ls (raw_of c.args.kind) c.args.start c.attached_from-first.result c.pending_end-end.result c.pending_end-end.ensures.end c.attached_from-first.ensures.inside c.attached_from-first.ensures.after c.attached_from-first.ensures.before in
    let rest : List TextStep = leaf_steps (slice_range (leaves_of ls) c.attached_from-first.result c.pending_end-end.result) in
    subst (λ (ss : List TextStep). FailsAtOne takes fails_at c.args.sink.now ss c.in-Err-put_one.error c.put_one.new.sink) is
    (fails_at-after takes fails_at c.args.sink.now c.put_leaves.new.sink c.put_one.new.sink c.in-Err-put_one.error _ _ c.in-Ok.ensures.taken
    (fails_at-in takes fails_at c.put_leaves.new.sink c.put_one.new.sink c.in-Err-put_one.error (Enter (raw_of c.args.kind) ∷ []) rest c.in-Err-put_one.ensures.refused))

pub returns-in-Err-put_leaves-clause-refused : goal.returns-in-Err-put_leaves-clause-refused
returns-in-Err-put_leaves-clause-refused g c =
    let takes = g.S.StrSink.takes in
    let fails_at = g.S.StrSink.fails_at in
    let ls = c.args.lexed.now.leaves in
    let is = enter-steps ls (raw_of c.args.kind) c.args.start c.attached_from-first.result c.pending_end-end.result c.pending_end-end.ensures.end c.attached_from-first.ensures.inside c.attached_from-first.ensures.after c.attached_from-first.ensures.before in
    let rest : List TextStep = leaf_steps (slice_range (leaves_of ls) c.attached_from-first.result c.pending_end-end.result) in
    subst (λ (ss : List TextStep). FailsAtOne takes fails_at c.args.sink.now ss c.in-Err-put_leaves.error c.put_leaves-2.new.sink) is
    (fails_at-after takes fails_at c.args.sink.now c.put_leaves.new.sink c.put_leaves-2.new.sink c.in-Err-put_leaves.error _ _ c.in-Ok.ensures.taken
    (fails_at-after takes fails_at c.put_leaves.new.sink c.put_one.new.sink c.put_leaves-2.new.sink c.in-Err-put_leaves.error (Enter (raw_of c.args.kind) ∷ []) rest c.in-Ok-put_one.ensures.taken c.in-Err-put_leaves.ensures.refused))

pub returns-in-Ok-put_leaves-clause-taken : goal.returns-in-Ok-put_leaves-clause-taken
returns-in-Ok-put_leaves-clause-taken g c =
    let takes = g.S.StrSink.takes in
    let ls = c.args.lexed.now.leaves in
    let is = enter-steps ls (raw_of c.args.kind) c.args.start c.attached_from-first.result c.pending_end-end.result c.pending_end-end.ensures.end c.attached_from-first.ensures.inside c.attached_from-first.ensures.after c.attached_from-first.ensures.before in
    let rest : List TextStep = leaf_steps (slice_range (leaves_of ls) c.attached_from-first.result c.pending_end-end.result) in
    record {
      taken = subst (λ (ss : List TextStep). TakesAll takes c.args.sink.now ss c.put_leaves-2.new.sink) is
          (takes-then takes c.args.sink.now c.put_leaves.new.sink c.put_leaves-2.new.sink _ _ c.in-Ok.ensures.taken
          (takes-then takes c.put_leaves.new.sink c.put_one.new.sink c.put_leaves-2.new.sink (Enter (raw_of c.args.kind) ∷ []) rest c.in-Ok-put_one.ensures.taken c.in-Ok-put_leaves.ensures.taken));
      at = enter-at ls (raw_of c.args.kind) c.args.start c.attached_from-first.result c.pending_end-end.result c.pending_end-end.ensures.end c.attached_from-first.ensures.inside c.attached_from-first.ensures.after c.attached_from-first.ensures.before;
      within = c.pending_end-end.ensures.within;
    }
