use Rattle.std.proofs.Common.{sym}
use Rattle.document_requests.proofs.Ranges.{ends-outside, turned}
use Rattle.document_requests.proofs.apply.range_of.Goals.{then-start-stop-via-then-start-stop, then-start-stop-via-else-start-stop+then-stop-text}
use Rattle.document_requests.proofs.apply.range_of.Goals as goal

pub returns-then-start-stop-clause-decided : goal.returns-then-start-stop-clause-decided
returns-then-start-stop-clause-decided c =
    elim c.then-start-stop.branch [
      | then-start-stop-via-then-start-stop w ↦ sym (turned _ _ _ w.if-start-stop.true)
      | then-start-stop-via-else-start-stop+then-stop-text w ↦ sym (ends-outside _ _ _ _ w.text.ensures.text w.if-stop-text.true)
    ]
