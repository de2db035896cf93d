-- What the steps of one node put of a text that they fit is the dressed tree.
use Rattle.std.proofs.Common.{◌≡◌, true, List, sym, ap, subst, ◌∙◌}
use Rattle.parser_input.specs.Lexed.{leaves_of}
use Rattle.parser_events.specs.Fits.{fits}
use Rattle.parser_events.specs.Laying.{put_around}
use Rattle.parser_events.specs.Sinks.{TakesAll}
use Rattle.parser_events.specs.Steps.{Step, steps}
use Rattle.parser_events.specs.TextSteps.{TextStep}
use Rattle.parser_events.proofs.Coverings.{dressed-is-put}
use Rattle.parser_events.proofs.shortcuts.intersperse_trivia.Goals as goal

pub returns-in-Ok-clause-tree : goal.returns-in-Ok-clause-tree
returns-in-Ok-clause-tree g c = λ f rooted is fit.
    let own = leaves_of c.args.lexed.now.leaves in
    let same : fits (steps f) own ≡ true = ap (λ (ss : List Step). fits ss own) (sym is) ∙ fit in
    subst (λ (x : List TextStep). TakesAll g.S.StrSink.takes c.args.sink.now x c.put_output.new.sink)
    (ap (λ (ss : List Step). put_around ss own) is ∙ dressed-is-put f own rooted same) c.in-Ok.ensures.taken
