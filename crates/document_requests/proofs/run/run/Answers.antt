use Rattle.std.proofs.Common.{ap, ◌∙◌}
use Rattle.document_requests.specs.Output.{replies}
use Rattle.document_requests.proofs.Fronts.{front_of_input}
use Rattle.document_requests.proofs.run.run.Goals as goal

pub returns-clause-front : goal.returns-clause-front
returns-clause-front g c = front_of_input _ _ _ _ _ _ c.write_outcome.ensures.front (c.in_ok-outcome.ensures.output ∙ ap replies c.deref.ensures.value) c.in_ok-bytes.ensures.read
