use Rattle.std.proofs.Common.{ℕ, [], ◌∷◌, refl, subst}
use Rattle.parser_events.specs.Seen.{message_of}
use Rattle.parser_events.specs.Sinks.{TakesAll, FailsAtOne}
use Rattle.parser_events.specs.TextSteps.{Error}
use Rattle.parser_events.proofs.shortcuts.put_message.Goals as goal

pub returns-in-Ok-clause-taken : goal.returns-in-Ok-clause-taken
returns-in-Ok-clause-taken g c =
    record {
      taken = subst (λ (n : ℕ). TakesAll g.S.StrSink.takes c.args.sink.now (Error (message_of c.args.msg) n ∷ []) c.put_one.new.sink) c.start_of-pos.ensures c.in-Ok.ensures.taken;
      at = refl;
      within = c.requires;
    }

pub returns-in-Err-clause-refused : goal.returns-in-Err-clause-refused
returns-in-Err-clause-refused g c =
    subst (λ (n : ℕ). FailsAtOne g.S.StrSink.takes g.S.StrSink.fails_at c.args.sink.now (Error (message_of c.args.msg) n ∷ []) c.in-Err.error c.put_one.new.sink) c.start_of-pos.ensures c.in-Err.ensures.refused
