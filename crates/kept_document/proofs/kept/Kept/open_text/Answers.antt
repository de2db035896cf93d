use Rattle.std.proofs.lemmas.Result.{err_from_is_err_and}
use Rattle.kept_document.proofs.Refusals.{open-refused}
use Rattle.kept_document.proofs.kept.Kept.open_text.Goals as goal

pub returns-in_err-test_limits-clause-refused : goal.returns-in_err-test_limits-clause-refused
returns-in_err-test_limits-clause-refused c =
    let p = err_from_is_err_and c.from_residual.result c.from_residual.ensures.1 in
    rw (p.1, p.2) c.in_err-test_limits.ensures.refused

pub returns-in_err-document-clause-refused : goal.returns-in_err-document-clause-refused
returns-in_err-document-clause-refused c =
    let p = err_from_is_err_and c.from_residual-in_err-document.result c.from_residual-in_err-document.ensures.1 in
    rw p.1 (λ utf8. open-refused c.args.edition c.args.text.now _ c.in_err-document.field-0.0 p.0 p.2 c.new-ids.ensures c.in_err-document.ensures.refused utf8)
