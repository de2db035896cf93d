use Rattle.std.proofs.Common.{◌≡◌, ◌∙◌, ℕ, ◌+◌, ◌%◌, ◌^◌, ap, map}
use Rattle.std.proofs.lemmas.Result.{IfOk-weaker}
use Rattle.syntax_tree.specs.Element.{Element}
use Rattle.document_requests.specs.Asked.{change as change_in}
use Rattle.kept_document.proofs.RewrittenTexts.{made-text, no-text}
use Rattle.kept_document.proofs.rehearsal.committed_text.Goals as goal

pub returns-in-Ok : goal.returns-in-Ok
returns-in-Ok c =
    let first = c.starting_at-ids.ensures ∙ ap (λ (n : ℕ). (n + 1) % 2 ^ 32) (c.tree.ensures ∙ ap (λ (e : Element). e.number) c.root.ensures) in
    let made = made-text c.args.document.now (map change_in c.args.changes.now) _ _ _ _ c.in_ok-editor.ensures first c.in-Ok.ensures.done in
    IfOk-weaker c.text_by.result _ _ (λ text h. h ∙ made) c.text_by.ensures

pub returns-in-Err-Refused : goal.returns-in-Err-Refused
returns-in-Err-Refused c =
    let first = c.starting_at-ids.ensures ∙ ap (λ (n : ℕ). (n + 1) % 2 ^ 32) (c.tree.ensures ∙ ap (λ (e : Element). e.number) c.root.ensures) in
    no-text c.args.document.now (map change_in c.args.changes.now) _ _ _ c.in-Err-Refused.field-0-0 c.in_ok-editor.ensures first (rw c.in-Err-Refused.field-0-is at c.in-Err-Refused.ensures.stopped)
