-- The text of the rewritten tree, and what was refused.
use Rattle.std.proofs.lemmas.Result.{err_from_is_err_and}
use Rattle.rust_document.proofs.document.Document.try_commit.Goals as goal

pub returns-clause-text : goal.returns-clause-text
returns-clause-text c = c.in_ok-rewritten.ensures.rewritten.read_back.text_is

pub returns-in_err-rewritten-clause-refused : goal.returns-in_err-rewritten-clause-refused
returns-in_err-rewritten-clause-refused c =
    let p = err_from_is_err_and c.from_residual.result c.from_residual.ensures.1 in
    rw (p.1, p.2) c.in_err-rewritten.ensures.refused
