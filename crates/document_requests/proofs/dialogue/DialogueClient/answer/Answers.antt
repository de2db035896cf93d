use Rattle.std.proofs.Common.{◌≡◌}
use Rattle.std.specs.Prelude.{string_bytes}
use Rattle.std.proofs.lemmas.Result.{IfOk-weaker}
use Rattle.document_requests.specs.Outcome.{ran_of}
use Rattle.document_requests.proofs.DialogueLemmas.{long-answer, whole-answer}
use Rattle.document_requests.proofs.dialogue.DialogueClient.answer.Goals as goal

pub returns-then-is_long : goal.returns-then-is_long
returns-then-is_long g c =
    IfOk-weaker c.rejected_line.result _ _
    (λ text h sent front. long-answer sent c.args.line.now (string_bytes text) c.args.is_long c.if-is_long.true front h)
    c.rejected_line.ensures

pub returns : goal.returns
returns g c =
    IfOk-weaker c.answer_line.result _ _
    (λ text h sent front. whole-answer sent c.args.line.now (string_bytes text) c.args.is_long (ran_of c.in_ok-outcome.outcome) c.if-is_long.false front c.in_ok-outcome.ensures.ran h)
    c.answer_line.ensures
