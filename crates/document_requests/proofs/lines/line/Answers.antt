use Rattle.std.proofs.Common.{◌∙◌, ◌+◌, ap}
use Rattle.std.proofs.lemmas.Result.{IfOk-weaker}
use Rattle.document_requests.proofs.Rows.{line-is}
use Rattle.document_requests.proofs.lines.line.Goals as goal

pub returns : goal.returns
returns c =
    let end = ap (λ n. c.args.start + n) (c.from.ensures ∙ c.text_len.ensures) in
    IfOk-weaker c.format.result _ _ (λ text h. h ∙ line-is _ _ _ _ c.kind.result.0 _ _ c.kind_name-kind.ensures c.kind.ensures end) c.format.ensures.ok
