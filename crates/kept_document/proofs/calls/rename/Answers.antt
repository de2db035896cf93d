use Rattle.std.proofs.Common.{subst}
use Rattle.kept_document.specs.Renamings.{RefusesRenaming}
use Rattle.kept_document.specs.declared.kept.Kept.{Kept}
use Rattle.kept_document.proofs.Handles.{keeps-same, not-open, open-refuses}
use Rattle.kept_document.proofs.calls.rename.Goals as goal

pub returns-then-not-is_open-clause-refused : goal.returns-then-not-is_open-clause-refused
returns-then-not-is_open-clause-refused c = λ _. not-open _ _ _ _ c.is_open.ensures c.if-not-is_open.true c.code.ensures.code

pub returns-then-not-is_open-clause-kept : goal.returns-then-not-is_open-clause-kept
returns-then-not-is_open-clause-kept c = λ _. keeps-same _

pub returns-in-Err-clause-refused : goal.returns-in-Err-clause-refused
returns-in-Err-clause-refused c =
    let why = subst (λ (k : Kept). RefusesRenaming k.document k.ids c.args.old.now c.args.new.now c.in-Err.reason) c.deref_mut.ensures.value c.in-Err.ensures.refused in
    λ _. open-refuses _ c.take-kept.result.value _ _ c.in-Err.reason c.take-kept.ensures.value c.code-in-Err.ensures.code why
