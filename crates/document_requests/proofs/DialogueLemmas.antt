-- The answer to a line.
use Rattle.std.proofs.Common.{◌≡◌, ℕ, ◌<◌, ◌≤◌, Bool, true, false, List, length, Result, Ok, Err, ap, subst, sym, ◌∙◌}
use Rattle.std.proofs.lemmas.Bool.{lt-ltb, le-ltb}
use Rattle.line_reader.specs.Parts.{IsFront}
use Rattle.document_requests.specs.LineAnswers.{answer_line, max_line, ran_line}
use Rattle.document_requests.specs.Output.{Ran, Rejected, ran_as}
use Rattle.document_requests.specs.declared.reply.Refusal.TheVariants as refusals
use Rattle.document_requests.specs.declared.request.Format.TheVariants as formats

pub whole-answer : (sent line text : List ℕ) (is_long : Bool) (r : Ran) → is_long ≡ false → IsFront max_line sent line is_long → r ≡ ran_as formats.Line line → text ≡ answer_line r → text ≡ answer_line (ran_line sent)
whole-answer sent line text true r short front is-run is = absurd (cc)
whole-answer sent line text false r short front is-run is =
    rw (le-ltb max_line (length sent) front.1) (is ∙ ap answer_line (is-run ∙ ap (ran_as formats.Line) front.0))

pub long-answer : (sent line text : List ℕ) (is_long : Bool) → is_long ≡ true → IsFront max_line sent line is_long → text ≡ answer_line (Rejected refusals.TooLong) → text ≡ answer_line (ran_line sent)
long-answer sent line text true long front is = rw (lt-ltb max_line (length sent) front) is
long-answer sent line text false long front is = absurd (cc)
