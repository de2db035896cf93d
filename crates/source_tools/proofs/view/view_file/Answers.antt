use Rattle.std.proofs.Common.{◌≡◌, Err, refl, string_bytes, ap, inl, inr}
use Rattle.file_target.specs.declared.error.TargetError.{TargetError}
use Rattle.source_tools.specs.FileErrors.{file_error_of}
use Rattle.source_tools.specs.Outcomes.{IsOutcome, outcome_read}
use Rattle.source_tools.proofs.ReadLemmas.{Answer, when-read, when-refused}
use Rattle.source_tools.proofs.view.view_file.Goals as goal

pub returns-in-Ok : goal.returns-in-Ok
returns-in-Ok g c =
    let view = c.args.view in
    let source = c.args.source.now in
    let gives = rw c.as_str.ensures.value at c.read.ensures in
    let viewed = rw c.as_slice.ensures.value at c.view_bytes.ensures in
    when-read (λ (a : Answer). IsOutcome (outcome_read view source a) c.view_bytes.result) (string_bytes source.path) c.in-Ok.contents viewed (g.T.Target.files c.args.target.now) c.read.result c.in-Ok.is gives

pub returns-in-Err : goal.returns-in-Err
returns-in-Err g c =
    let view = c.args.view in
    let source = c.args.source.now in
    let e = c.in-Err.error in
    let gives = rw c.as_str.ensures.value at c.read.ensures in
    rw c.from.ensures
    (when-refused (λ (a : Answer). IsOutcome (outcome_read view source a) (Err (file_error_of e))) (string_bytes source.path) e (inr refl) (λ m read. inl (ap file_error_of m)) (λ m x. inl (ap file_error_of m))
    (g.T.Target.files c.args.target.now) c.read.result c.in-Err.is gives)
