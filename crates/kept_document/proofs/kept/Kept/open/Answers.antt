use Rattle.std.proofs.Common.{◌∙◌, List, ℕ, subst, sym}
use Rattle.std.specs.Str.{IsUtf8}
use Rattle.std.proofs.lemmas.Result.{IfErr-weaker, IfOk-weaker, err_from_is_err_and}
use Rattle.kept_document.proofs.Refusals.{fresh-as, opening-refused, refused-as, text-refused}
use Rattle.kept_document.proofs.kept.Kept.open.Goals as goal

pub returns-in_err-text-clause-refused : goal.returns-in_err-text-clause-refused
returns-in_err-text-clause-refused c =
    let p = err_from_is_err_and c.from_residual.result c.from_residual.ensures.1 in
    let refused = c.in_err-text.ensures.refused in
    rw p.1
    (opening-refused _ _ c.in-Some.edition c.in-Some-grammar_of.grammar c.args.text.now p.0 (sym c.in-Some.ensures) (sym c.in-Some-grammar_of.ensures)
    (text-refused c.in-Some.edition c.args.text.now p.0 (p.2 ∙ refused.0) refused.1))

pub returns-clause-opened : goal.returns-clause-opened
returns-clause-opened c =
    let text = c.in_ok-text.ensures.text in
    IfOk-weaker c.open_text.result _ _ (λ kept h. fresh-as _ _ _ _ _ _ kept (sym c.in-Some.ensures) (sym c.in-Some-grammar_of.ensures) text.0 h) c.open_text.ensures.opened

pub returns-clause-refused : goal.returns-clause-refused
returns-clause-refused c =
    let text = c.in_ok-text.ensures.text in
    IfErr-weaker c.open_text.result _ _
    (λ reason h. refused-as _ _ _ _ _ _ reason (sym c.in-Some.ensures) (sym c.in-Some-grammar_of.ensures) text.0 (h (subst IsUtf8 (sym text.0) text.1))) c.open_text.ensures.refused
