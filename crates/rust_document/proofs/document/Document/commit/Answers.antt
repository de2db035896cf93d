-- What was refused, part by part.
use Rattle.std.proofs.Common.{refl}
use Rattle.std.proofs.lemmas.Result.{err_from_is_err_and}
use Rattle.rust_document.specs.Step.{Accepted}
use Rattle.rust_document.proofs.Verdicts.{without_tree}
use Rattle.rust_document.proofs.WellSpacedRewrites.{spaced-refused}
use Rattle.rust_document.proofs.document.Document.commit.Goals as goal

pub returns-in_err-rewritten-clause-refused : goal.returns-in_err-rewritten-clause-refused
returns-in_err-rewritten-clause-refused c =
    let p = err_from_is_err_and c.from_residual.result c.from_residual.ensures.1 in
    rw (p.1, p.2) (c.in_err-rewritten.ensures.refused c.args.ids.now)

pub returns-in_err-accept-clause-refused : goal.returns-in_err-accept-clause-refused
returns-in_err-accept-clause-refused c =
    let p = err_from_is_err_and c.from_residual-in_err-accept.result c.from_residual-in_err-accept.ensures.1 in
    rw (p.1, p.2) (without_tree _ c.args.ids.now c.in_err-accept.field-0.0 c.in_ok-rewritten.ensures.accepted c.in_err-accept.ensures.refused)

pub returns-in_err-rewritten-clause-renames : goal.returns-in_err-rewritten-clause-renames
returns-in_err-rewritten-clause-renames c =
    let p = err_from_is_err_and c.from_residual.result c.from_residual.ensures.1 in
    rw (p.1, p.2) (λ renaming short. c.in_err-rewritten.ensures.renames renaming short c.args.ids.now)

pub returns-in_err-accept-clause-renames : goal.returns-in_err-accept-clause-renames
returns-in_err-accept-clause-renames c =
    let p = err_from_is_err_and c.from_residual-in_err-accept.result c.from_residual-in_err-accept.ensures.1 in
    rw (p.1, p.2) (λ _ _. without_tree Accepted c.args.ids.now c.in_err-accept.field-0.0 refl c.in_err-accept.ensures.refused)

pub returns-in_err-rewritten-clause-spaced : goal.returns-in_err-rewritten-clause-spaced
returns-in_err-rewritten-clause-spaced c =
    let p = err_from_is_err_and c.from_residual.result c.from_residual.ensures.1 in
    rw (p.1, p.2) (spaced-refused c.args.self.now c.args.editor _ _ (c.in_err-rewritten.ensures.refused c.args.ids.now))

pub returns-in_err-accept-clause-spaced : goal.returns-in_err-accept-clause-spaced
returns-in_err-accept-clause-spaced c =
    let p = err_from_is_err_and c.from_residual-in_err-accept.result c.from_residual-in_err-accept.ensures.1 in
    rw (p.1, p.2) (λ _. without_tree Accepted c.args.ids.now c.in_err-accept.field-0.0 refl c.in_err-accept.ensures.refused)
