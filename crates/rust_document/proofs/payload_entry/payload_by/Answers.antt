-- A refusal is one of its parts.
use Rattle.std.proofs.lemmas.Result.{err_from_is_err_and}
use Rattle.rust_document.proofs.payload_entry.payload_by.Goals as goal

pub returns-in_err-leaf-in-Token-clause-refused : goal.returns-in_err-leaf-in-Token-clause-refused
returns-in_err-leaf-in-Token-clause-refused c =
    let p = err_from_is_err_and c.from_residual-in_err-leaf-in-Token.result c.from_residual-in_err-leaf-in-Token.ensures.1 in
    rw (p.1, p.2, c.in-Token.is) (c.in_err-leaf-in-Token.ensures.refused c.args.ids.now)

pub returns-in_err-root-in-Top-clause-refused : goal.returns-in_err-root-in-Top-clause-refused
returns-in_err-root-in-Top-clause-refused c =
    let p = err_from_is_err_and c.from_residual.result c.from_residual.ensures.1 in
    rw (p.1, p.2, c.in-Top.is) (c.in_err-root-in-Top.ensures.refused c.args.ids.now)
