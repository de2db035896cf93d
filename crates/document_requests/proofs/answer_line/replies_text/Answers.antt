use Rattle.std.proofs.Common.{ap, map, ◌∙◌}
use Rattle.std.proofs.lemmas.Result.{IfOk-weaker}
use Rattle.serde_json.specs.Data.{array}
use Rattle.serde_json.specs.Written.{compact_text, has_float}
use Rattle.serde_json.proofs.Views.{view-Array}
use Rattle.document_requests.specs.Answered.{reply as answered}
use Rattle.document_requests.proofs.NoFloat.{replies_no_float}
use Rattle.document_requests.proofs.answer_line.replies_text.Goals as goal

pub returns : goal.returns
returns c =
    let value = view-Array c.in_ok-reply_values.field-0 ∙ ap array c.in_ok-reply_values.ensures in
    let whole = ap has_float value ∙ replies_no_float (map answered c.args.replies.now) in
    IfOk-weaker c.to_string.result _ _ (λ text h. h whole ∙ ap compact_text value) c.to_string.ensures.text
