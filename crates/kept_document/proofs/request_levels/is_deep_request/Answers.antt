use Rattle.std.proofs.Common.{◌≡◌, ◌∙◌, ap, sym, rules, Some, None}
use Rattle.std.specs.Prelude.{option_and_then, option_map}
use Rattle.std.specs.Str.{IsUtf8}
use Rattle.std.proofs.lemmas.Result.{IfOk-weaker}
use Rattle.serde_json.specs.View.{view}
use Rattle.ra_parser.specs.declared.grammar.Grammar.TheVariants.{Profile}
use Rattle.document_requests.specs.Asked.{request as request_asked}
use Rattle.document_requests.specs.Request.{request_by}
use Rattle.kept_document.proofs.DeepRuns.{no-text-request, short-request, text-request}
use Rattle.kept_document.proofs.request_levels.is_deep_request.Goals as goal

pub returns-then-request-le-LEVELS : goal.returns-then-request-le-LEVELS
returns-then-request-le-LEVELS c = short-request c.args.request.now c.if-request-le-LEVELS.true

pub returns-in_default : goal.returns-in_default
returns-in_default c =
    let fails : ¬ (IsUtf8 c.args.request.now) = search rules in
    no-text-request c.args.request.now c.if-request-le-LEVELS.false fails

pub returns-in_default-2 : goal.returns-in_default-2
returns-in_default-2 c =
    let same : c.in-Ok.text.now ≡ c.args.request.now = search rules in
    let utf8 : IsUtf8 c.args.request.now = search rules in
    let none = ap (option_and_then (request_by Profile)) (ap (option_map view) (sym c.in_default-2.is) ∙ c.in_ok-value.ensures) in
    text-request c.args.request.now c.in-Ok.text.now None c.if-request-le-LEVELS.false same utf8 none

pub returns-in-Some-2 : goal.returns-in-Some-2
returns-in-Some-2 c =
    let same : c.in-Ok.text.now ≡ c.args.request.now = search rules in
    let utf8 : IsUtf8 c.args.request.now = search rules in
    let asked = ap (option_map request_asked) (sym c.in-Some-2.is) ∙ c.in_ok-request.ensures in
    let read = ap (option_and_then (request_by Profile)) (ap (option_map view) (sym c.in-Some.is) ∙ c.in_ok-value.ensures) in
    let deep = text-request c.args.request.now c.in-Ok.text.now (Some (request_asked c.in-Some-2.request)) c.if-request-le-LEVELS.false same utf8 (asked ∙ read) in
    IfOk-weaker c.is_deep_run.result _ _ (λ _ h. h ∙ deep) c.is_deep_run.ensures

pub returns : goal.returns
returns c =
    let same : c.in-Ok.text.now ≡ c.args.request.now = search rules in
    let utf8 : IsUtf8 c.args.request.now = search rules in
    let asked = ap (option_map request_asked) (sym c.in-None.is) ∙ c.in_ok-request.ensures in
    let read = ap (option_and_then (request_by Profile)) (ap (option_map view) (sym c.in-Some.is) ∙ c.in_ok-value.ensures) in
    text-request c.args.request.now c.in-Ok.text.now None c.if-request-le-LEVELS.false same utf8 (asked ∙ read)
