use Rattle.std.proofs.Common.{◌∙◌}
use Rattle.std.proofs.lemmas.Result.{IfOk-weaker}
use Rattle.document_requests.proofs.Requests.{no_text, ran_alike, same_ran, value_read}
use Rattle.document_requests.proofs.serve.serve_as.Goals as goal

pub returns-in_default-clause-ran : goal.returns-in_default-clause-ran
returns-in_default-clause-ran c = no_text c.args.format c.args.bytes.now c.in_default.ensures.cases.0

pub returns-in_default-clause-alike : goal.returns-in_default-clause-alike
returns-in_default-clause-alike c none = returns-in_default-clause-ran c ∙ same_ran c.args.format c.args.bytes.now none

pub returns-in-Ok-from_str-clause-ran : goal.returns-in-Ok-from_str-clause-ran
returns-in-Ok-from_str-clause-ran c =
    let read = value_read c.args.format _ c.args.bytes.now _ c.in-Ok.ensures.cases.0 c.in-Ok.ensures.cases.1 c.in-Ok-from_str.ensures.ok in
    IfOk-weaker c.serve_value.result _ _ (λ outcome h. h ∙ read) c.serve_value.ensures

pub returns-in-Ok-from_str-clause-alike : goal.returns-in-Ok-from_str-clause-alike
returns-in-Ok-from_str-clause-alike c = ran_alike c.serve_value.result c.args.format c.args.bytes.now (returns-in-Ok-from_str-clause-ran c)
