use Rattle.std.proofs.Common.{arith, string_bytes, [], ◌∷◌, ◌++◌, ap, ◌∙◌}
use Rattle.serde_json.specs.Written.{has_float, compact_text}
use Rattle.document_requests.specs.Answered.{reply as answered}
use Rattle.document_requests.proofs.NoFloat.{reply_no_float}
use Rattle.document_requests.proofs.print.line.Goals as goal

pub returns : goal.returns
returns c =
    let value = c.in_ok-reply_value.ensures in
    let written = c.in_ok-text.ensures.text (ap has_float value ∙ reply_no_float (answered c.args.reply.now)) in
    c.in_ok-push.ensures.bytes ∙ ap (λ end. string_bytes c.in_ok-text.text ++ end) (c.in_ok-push.ensures.ascii (omega arith)) ∙ ap (λ text. text ++ 10 ∷ []) (written ∙ ap compact_text value)
