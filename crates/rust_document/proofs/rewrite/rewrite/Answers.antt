-- What was rewritten, read back.
use Rattle.std.proofs.lemmas.Result.{err_from_is_err_and}
use Rattle.rust_document.proofs.Rewrites.{read, not-read, not-rewritten}
use Rattle.rust_document.proofs.rewrite.rewrite.Goals as goal

pub returns-clause-ok : goal.returns-clause-ok
returns-clause-ok c =
    let made = c.in_ok-rewritten.ensures in
    read c.args.grammar c.args.edition c.args.editor.now c.in_ok-rewritten.rewritten.green _ _ _ _ made.placeable made.green made.fits made.changed c.in_ok-text.ensures.ok

pub returns-in_err-rewritten-clause-refused : goal.returns-in_err-rewritten-clause-refused
returns-in_err-rewritten-clause-refused c =
    let p = err_from_is_err_and c.from_residual.result c.from_residual.ensures.1 in
    rw (p.1, p.2) (not-rewritten c.args.grammar c.args.edition c.args.editor.now _ c.in_err-rewritten.ensures.refused)

pub returns-in_err-text-clause-refused : goal.returns-in_err-text-clause-refused
returns-in_err-text-clause-refused c =
    let made = c.in_ok-rewritten.ensures in
    let p = err_from_is_err_and c.from_residual-in_err-text.result c.from_residual-in_err-text.ensures.1 in
    rw (p.1, p.2)
    (not-read c.args.grammar c.args.edition c.args.editor.now c.in_ok-rewritten.rewritten.green _ made.placeable made.green made.fits c.in_err-text.ensures.refused)
