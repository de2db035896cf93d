-- The counts are those of the content's edit.
use Rattle.std.proofs.Common.{ap, sym, ◌∙◌}
use Rattle.rust_document.specs.Step.{State}
use Rattle.rust_document.proofs.Counts.{counts-told}
use Rattle.rust_document.proofs.document.Document.edit.Goals as goal

pub returns-clause-counts : goal.returns-clause-counts
returns-clause-counts c =
    let new = c.as_str.ensures.value ∙ sym (ap (λ (s : State). s.text) c.in_ok-renew.ensures.state) in
    counts-told c.args.self.now.edition c.args.self.now.text c.as_str.result.now _ c.args.text.now c.args.range.start.0 c.args.range.end.0
    c.in_ok-content.content.counts _ _ c.answer_of.result new c.in_ok-content.ensures.counts c.answer_of.ensures.counts
