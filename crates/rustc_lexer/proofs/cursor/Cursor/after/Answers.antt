use Rattle.std.proofs.Common.{◌∙◌, sym, ap, drop, chars}
use Rattle.std.proofs.lemmas.Str.{chars_past_char}
use Rattle.rustc_lexer.proofs.cursor.Cursor.after.Goals as goal

pub returns-in-Some : goal.returns-in-Some
returns-in-Some c =
    let step = chars_past_char c.self.inside.rest.now c.next.new.self.rest.now c.in-Some.field-0 c.self.invariant (sym c.chars-rest.ensures.rest ∙ c.in-Some.ensures.steps.0) in
    ap chars c.as_str.ensures ∙ sym (ap (λ z. drop 1 z) step) ∙ ap (λ z. drop 1 z) c.self.view_is
