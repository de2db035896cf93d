-- All leaves that are left, and the root's end.
use Rattle.std.proofs.Common.{List, [], ◌∷◌, ◌++◌, subst}
use Rattle.parser_input.specs.Leaf.{Leaf}
use Rattle.parser_events.specs.Sinks.{TakesAll, FailsAtOne}
use Rattle.parser_events.specs.TextSteps.{Exit, leaf_steps}
use Rattle.parser_events.proofs.Putting.{slice-rest}
use Rattle.parser_events.proofs.Sinks.{takes-then, fails_at-after, fails_at-in}
use Rattle.parser_events.proofs.shortcuts.put_end.Goals as goal

pub returns-in-Err-clause-refused : goal.returns-in-Err-clause-refused
returns-in-Err-clause-refused g c =
    subst (λ (r : List Leaf). FailsAtOne g.S.StrSink.takes g.S.StrSink.fails_at c.args.sink.now (leaf_steps r ++ Exit ∷ []) c.in-Err.error c.put_leaves.new.sink)
    (slice-rest c.args.lexed.now.leaves c.args.start c.len.result c.len.ensures)
    (fails_at-in g.S.StrSink.takes g.S.StrSink.fails_at c.args.sink.now c.put_leaves.new.sink c.in-Err.error _ (Exit ∷ []) c.in-Err.ensures.refused)

pub returns-in-Err-put_one-clause-refused : goal.returns-in-Err-put_one-clause-refused
returns-in-Err-put_one-clause-refused g c =
    subst (λ (r : List Leaf). FailsAtOne g.S.StrSink.takes g.S.StrSink.fails_at c.args.sink.now (leaf_steps r ++ Exit ∷ []) c.in-Err-put_one.error c.put_one.new.sink)
    (slice-rest c.args.lexed.now.leaves c.args.start c.len.result c.len.ensures)
    (fails_at-after g.S.StrSink.takes g.S.StrSink.fails_at c.args.sink.now c.put_leaves.new.sink c.put_one.new.sink c.in-Err-put_one.error _ (Exit ∷ []) c.in-Ok.ensures.taken c.in-Err-put_one.ensures.refused)

pub returns-in-Ok-put_one-clause-taken : goal.returns-in-Ok-put_one-clause-taken
returns-in-Ok-put_one-clause-taken g c =
    subst (λ (r : List Leaf). TakesAll g.S.StrSink.takes c.args.sink.now (leaf_steps r ++ Exit ∷ []) c.put_one.new.sink)
    (slice-rest c.args.lexed.now.leaves c.args.start c.len.result c.len.ensures)
    (takes-then g.S.StrSink.takes c.args.sink.now c.put_leaves.new.sink c.put_one.new.sink _ (Exit ∷ []) c.in-Ok.ensures.taken c.in-Ok-put_one.ensures.taken)
