use Rattle.std.proofs.Common.{◌≡◌, ◌∙◌, Some, ap, sym}
use Rattle.kept_document.proofs.Handles.{keeps-same, uncommitted, uncommitted-closed}
use Rattle.kept_document.proofs.calls.commit.Goals as goal

pub returns-then-not-is_open-clause-refused : goal.returns-then-not-is_open-clause-refused
returns-then-not-is_open-clause-refused c = λ _. uncommitted-closed _ _ _ _ c.is_open.ensures c.if-not-is_open.true c.code.ensures.code

pub returns-then-not-is_open-clause-kept : goal.returns-then-not-is_open-clause-kept
returns-then-not-is_open-clause-kept c = λ _. keeps-same _

pub returns-in-Err-clause-refused : goal.returns-in-Err-clause-refused
returns-in-Err-clause-refused c =
    let was : c.args.handle.now.hold.kept ≡ Some c.deref_mut.result.now = cc in
    let now : c.fill.new.self.hold.kept ≡ Some c.commit-done.new.self = cc in
    λ _. uncommitted _ _ _ _ _ _ c.in-Err.reason was now c.code-in-Err.ensures.code c.in-Err.ensures.refused
