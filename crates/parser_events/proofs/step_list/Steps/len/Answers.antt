-- Each entry is one step.
use Rattle.std.proofs.Common.{◌∙◌, List, length, ap, sym}
use Rattle.parser_events.specs.declared.step.Step.{Step}
use Rattle.parser_events.proofs.Packings.{stored-length}
use Rattle.parser_events.proofs.step_list.Steps.len.Goals as goal

pub returns : goal.returns
returns c = sym (stored-length c.self.inside.entries.now c.self.inside.long.now) ∙ ap (λ (l : List Step). length l) c.self.view_is
