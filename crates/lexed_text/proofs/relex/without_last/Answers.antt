use Rattle.std.proofs.Common.{◌≡◌, ℕ, List, ◌++◌, sym, ◌∙◌, ap, length, chars}
use Rattle.std.proofs.lemmas.List.{nil_from_length}
use Rattle.std.proofs.lemmas.Str.{chars-nil}
use Rattle.std.proofs.Math.Utf8.{encode}
use Rattle.lexed_text.proofs.Texts.{last-char}
use Rattle.lexed_text.proofs.relex.without_last.Goals as goal

pub returns-in-Some : goal.returns-in-Some
returns-in-Some c =
    let last = c.in-Some.field-0 in
    let rest = c.as_str.result.now in
    let whole : c.args.text.now ≡ rest ++ encode last =
    sym c.chars-rest.ensures.rest ∙ c.in-Some.ensures.steps ∙ ap (λ (z : List ℕ). z ++ encode last) (sym c.as_str.ensures) in
    record {
      is_text = c.as_str.utf8;
      last = last;
      whole = last-char c.args.text.now rest last c.utf8.text c.as_str.utf8 whole;
    }

pub returns-in-None : goal.returns-in-None
returns-in-None c =
    ap chars (nil_from_length c.args.text.now (ap length (sym c.chars-rest.ensures.rest) ∙ c.in-None.ensures.steps.0)) ∙ chars-nil
