use Rattle.kept_document.specs.declared.reason.Reason.TheVariants.{NoMemory}
use Rattle.kept_document.proofs.Handles.{closed-refuses, is-open, lacks-memory}
use Rattle.kept_document.proofs.calls.open.Goals as goal

pub returns-then-is_open-clause-refused : goal.returns-then-is_open-clause-refused
returns-then-is_open-clause-refused c = λ _. is-open _ _ _ _ c.is_open.ensures c.if-is_open.true c.code.ensures.code

pub returns-in-Ok-clause-refused : goal.returns-in-Ok-clause-refused
returns-in-Ok-clause-refused c =
    λ _. closed-refuses _ _ _ _ NoMemory c.is_open.ensures c.if-is_open.false c.code-in-Err-new.ensures.code (lacks-memory _ _ _ _ c.in-Ok.ensures.opened)
