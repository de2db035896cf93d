-- The rewritten tree, compared with its reading.
use Rattle.std.proofs.lemmas.Result.{err_from_is_err_and}
use Rattle.rust_document.proofs.DifferenceVerdicts.{compared, not-compared-answer, not-made}
use Rattle.rust_document.proofs.rewrite.rewritten_difference.Goals as goal

pub returns-clause-told : goal.returns-clause-told
returns-clause-told c =
    let made = c.in_ok-made.ensures in
    compared c.args.grammar c.args.edition c.args.editor.now c.in_ok-made.made.green c.difference_from_reading.result made.placeable made.green made.fits c.difference_from_reading.ensures.fits c.difference_from_reading.ensures.told

pub returns-clause-refused : goal.returns-clause-refused
returns-clause-refused c =
    let made = c.in_ok-made.ensures in
    not-compared-answer c.args.grammar c.args.edition c.args.editor.now c.in_ok-made.made.green c.difference_from_reading.result made.placeable made.green made.fits c.difference_from_reading.ensures.refused

pub returns-in_err-made-clause-refused : goal.returns-in_err-made-clause-refused
returns-in_err-made-clause-refused c =
    let p = err_from_is_err_and c.from_residual.result c.from_residual.ensures.1 in
    rw (p.1, p.2) (not-made c.args.grammar c.args.edition c.args.editor.now _ c.in_err-made.ensures.refused)
