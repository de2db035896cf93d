use Rattle.std.proofs.Common.{rules, ◌≡◌, ◌++◌}
use Rattle.document_requests.specs.Outcome.{output}
use Rattle.document_requests.proofs.Fronts.{same_front}
use Rattle.document_requests.proofs.KnownBytes.{front_more, front_then}
use Rattle.document_requests.proofs.run.write_outcome.Goals as goal

pub returns-in_err-write_all-in-NotRun-clause-front :
    goal.returns-in_err-write_all-in-NotRun-clause-front
returns-in_err-write_all-in-NotRun-clause-front g c =
    let bytes : c.as_bytes.result.now ≡ (output c.args.outcome.now).written = search rules in
    same_front _ _ _ _ _ c.in_err-write_all-in-NotRun.ensures.front bytes

pub returns-in_err-write_all-in-Run-clause-front :
    goal.returns-in_err-write_all-in-Run-clause-front
returns-in_err-write_all-in-Run-clause-front g c =
    let bytes : c.as_bytes-in-Run.result.now ++ c.in-Run.document.text ≡ (output c.args.outcome.now).written = search rules in
    same_front _ _ _ _ _ (front_more _ _ _ c.in-Run.document.text c.in_err-write_all-in-Run.ensures.front) bytes

pub returns-in_err-write_all-in-Run-2-clause-front :
    goal.returns-in_err-write_all-in-Run-2-clause-front
returns-in_err-write_all-in-Run-2-clause-front g c =
    let bytes : c.as_bytes-in-Run.result.now ++ c.as_bytes-in-Run-2.result.now ≡ (output c.args.outcome.now).written = search rules in
    same_front _ _ _ _ _ (front_then _ _ _ _ _ c.in_ok-write_all-in-Run.ensures.written c.in_err-write_all-in-Run-2.ensures.front) bytes
