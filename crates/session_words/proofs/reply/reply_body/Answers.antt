use Rattle.std.proofs.Common.{ap, ◌∙◌}
use Rattle.std.proofs.lemmas.Result.{IfOk-weaker}
use Rattle.serde_json.specs.Written.{has_float, compact_text}
use Rattle.session_words.specs.Replies.{reply_of}
use Rattle.session_words.proofs.NoFloat.{reply_no_float}
use Rattle.session_words.proofs.reply.reply_body.Goals as goal

pub returns : goal.returns
returns c =
    let value = c.in_ok-reply_value.ensures in
    IfOk-weaker c.to_string.result _ _ (λ text written. written (ap has_float value ∙ reply_no_float (reply_of c.args.reply)) ∙ ap compact_text value) c.to_string.ensures.text
