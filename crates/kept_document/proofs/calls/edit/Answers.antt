use Rattle.kept_document.proofs.Handles.{not-open}
use Rattle.kept_document.proofs.calls.edit.Goals as goal

pub returns-then-not-is_open-clause-refused : goal.returns-then-not-is_open-clause-refused
returns-then-not-is_open-clause-refused c = λ _. not-open _ _ _ _ c.is_open.ensures c.if-not-is_open.true c.code.ensures.code
