use Rattle.std.proofs.Common.{◌≡◌, ◌∙◌, ap, sym}
use Rattle.std.specs.Prelude.{is_some}
use Rattle.std.proofs.lemmas.Result.{err_from_is_err_and}
use Rattle.kept_document.proofs.Refusals.{edit-limited, edit-no-text, edit-unedited, same-edited}
use Rattle.kept_document.proofs.kept.Kept.edit.Goals as goal

pub returns-in_err-text-clause-refused : goal.returns-in_err-text-clause-refused
returns-in_err-text-clause-refused c =
    let p = err_from_is_err_and c.from_residual.result c.from_residual.ensures.1 in
    let refused = c.in_err-text.ensures.refused in
    rw p.1 (edit-no-text c.args.self.now.document c.args.self.now.ids c.args.start c.args.end c.args.text.now p.0 (p.2 ∙ refused.0) refused.1)

pub returns-in_err-new-clause-refused : goal.returns-in_err-new-clause-refused
returns-in_err-new-clause-refused c =
    let p = err_from_is_err_and c.from_residual-in_err-new.result c.from_residual-in_err-new.ensures.1 in
    let text = c.in_ok-text.ensures.text in
    let same = same-edited _ _ _ _ _ _ _ _ c.text.ensures.text c.in-Some.ensures.start c.in-Some.ensures.end text.0 in
    rw p.1
    (edit-unedited c.args.self.now.document c.args.self.now.ids c.args.start c.args.end c.args.text.now _ p.0 text.1 (sym c.range_of.ensures.decided ∙ ap is_some c.in-Some.is) same
    (rw p.2 c.in_err-new.ensures.refused))

pub returns-in_err-test_limits-clause-refused : goal.returns-in_err-test_limits-clause-refused
returns-in_err-test_limits-clause-refused c =
    let p = err_from_is_err_and c.from_residual-in_err-test_limits.result c.from_residual-in_err-test_limits.ensures.1 in
    let text = c.in_ok-text.ensures.text in
    let same = c.as_str.ensures.value ∙ c.in_ok-new.ensures.edited ∙ same-edited _ _ _ _ _ _ _ _ c.text.ensures.text c.in-Some.ensures.start c.in-Some.ensures.end text.0 in
    rw p.1
    (edit-limited c.args.self.now.document c.args.self.now.ids c.args.start c.args.end c.args.text.now c.as_str.result.now p.0 _ c.edition.ensures text.1
    (sym c.range_of.ensures.decided ∙ ap is_some c.in-Some.is) same (rw c.as_str.ensures.value c.in_ok-new.ensures.fits) c.as_str.utf8 (rw p.2 (c.in_err-test_limits.ensures.refused c.as_str.utf8)))
