-- The looks are stored.
use Rattle.std.proofs.Common.{ap}
use Rattle.parser_events.specs.View.{Parsed}
use Rattle.parser_events.proofs.output.Output.steps.Goals as goal

pub returns : goal.returns
returns c = ap (λ (p : Parsed). p.looks) c.self.view_is
