-- The entry and its length, if that is a long one, are unpacked as the step.
use Rattle.std.proofs.Common.{◌∙◌, List, ◌∷◌, ap}
use Rattle.parser_events.specs.declared.step.Step.{Step}
use Rattle.parser_events.proofs.Packings.{pushed-short, pushed-long, on-ok-both}
use Rattle.parser_events.proofs.step_list.StepList.push.Goals as goal

pub returns-in_ok-push-in-None-clause-pushed : goal.returns-in_ok-push-in-None-clause-pushed
returns-in_ok-push-in-None-clause-pushed c =
    pushed-short c.args.step c.pack-entry.result.0 c.pack-entry.result.1 c.self.inside.entries.items c.push.new.self.items c.self.inside.long.items
    c.pack-entry.ensures c.in-None.is c.in_ok-push-in-None.ensures.items
    ∙ ap (λ (l : List Step). c.args.step ∷ l) c.self.view_is

pub returns-in-Some-clause-pushed : goal.returns-in-Some-clause-pushed
returns-in-Some-clause-pushed c =
    on-ok-both c.push_both.result c.push_both.ensures.entry c.push_both.ensures.length
    (λ is beside. pushed-long c.args.step c.pack-entry.result.0 c.pack-entry.result.1 c.in-Some.length c.self.inside.entries.items c.push_both.new.entries.items
    c.self.inside.long.items c.push_both.new.long.items c.pack-entry.ensures c.in-Some.is is beside
    ∙ ap (λ (l : List Step). c.args.step ∷ l) c.self.view_is)
