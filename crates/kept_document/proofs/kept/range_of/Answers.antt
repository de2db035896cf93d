use Rattle.std.proofs.Common.{sym}
use Rattle.document_requests.proofs.Ranges.{ends-outside, turned}
use Rattle.kept_document.proofs.kept.range_of.Goals.{then-start-end-via-then-start-end, then-start-end-via-else-start-end+then-end-text}
use Rattle.kept_document.proofs.kept.range_of.Goals as goal

pub returns-then-start-end-clause-decided : goal.returns-then-start-end-clause-decided
returns-then-start-end-clause-decided c =
    elim c.then-start-end.branch [
      | then-start-end-via-then-start-end w ↦ sym (turned _ _ _ w.if-start-end.true)
      | then-start-end-via-else-start-end+then-end-text w ↦ sym (ends-outside _ _ _ _ w.text.ensures.text w.if-end-text.true)
    ]
