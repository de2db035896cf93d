use Rattle.std.proofs.Common.{◌≡◌, ◌∙◌, ap, map, subst}
use Rattle.std.specs.Str.{IsUtf8}
use Rattle.std.proofs.lemmas.Result.{IfOk-weaker}
use Rattle.document_requests.specs.Applied.{session}
use Rattle.document_requests.specs.Asked.{command as command_in}
use Rattle.document_requests.specs.Asked.{request as request_asked}
use Rattle.kept_document.specs.DeepRequests.{runs_deep}
use Rattle.kept_document.proofs.DeepRuns.{opened-run, refused-run}
use Rattle.kept_document.proofs.request_levels.is_deep_run.Goals as goal

pub returns-in-Ok : goal.returns-in-Ok
returns-in-Ok c =
    let begun = session c.in-Ok.kept.document c.in-Ok.kept.ids in
    let runs = ap (λ commands. runs_deep (map command_in commands) begun) c.deref.ensures.value ∙ opened-run (request_asked c.args.request.now) c.in-Ok.kept c.in-Ok.ensures.opened in
    IfOk-weaker c.run_deep.result _ _ (λ deep h. h ∙ runs) c.run_deep.ensures

pub returns-in-Err : goal.returns-in-Err
returns-in-Err c =
    let utf8 = subst IsUtf8 c.as_bytes-bytes.ensures.value c.as_bytes-bytes.ensures.utf8 in
    IfOk-weaker c.is_depth.result _ _ (λ deep h. refused-run (request_asked c.args.request.now) c.in-Err.reason deep utf8 h.0 h.1 (c.in-Err.ensures.refused utf8)) c.is_depth.ensures
