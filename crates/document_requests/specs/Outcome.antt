-- The result of a request in code.
use Rattle.std.specs.Prelude.{map}
use Rattle.document_requests.specs.Answered.{reply}
use Rattle.document_requests.specs.Output.{Output, Ran, Rejected, Completed, output_of}
use Rattle.document_requests.specs.declared.serve.Outcome.{Outcome}
use Rattle.document_requests.specs.declared.serve.Outcome.TheVariants.{NotRun, Run}

abbrev pub ran_of : Outcome → Ran
ran_of (NotRun refusal) = Rejected refusal
ran_of (Run document replies) = Completed (map reply replies.items) document.text

abbrev pub output : Outcome → Output
output o = output_of (ran_of o)
