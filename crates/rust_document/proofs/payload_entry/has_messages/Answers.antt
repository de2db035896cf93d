-- What the lexer says after a `;`.
use Rattle.std.proofs.Common.{◌≡◌, ℕ, ◌∷◌, ◌∙◌, ap, nat_lt, map, length, List}
use Rattle.parser_input.specs.Faults.{faults}
use Rattle.parser_input.specs.Lexed.{Lexed}
use Rattle.parser_input.specs.Stored.{Whole}
use Rattle.rust_document.proofs.Contents.{has-messages, taken-tells}
use Rattle.rust_document.proofs.payload_entry.has_messages.Goals as goal

pub returns : goal.returns
returns c =
    let bytes : c.as_str.result.now ≡ 59 ∷ c.args.text.now = c.as_str.ensures.value ∙ c.in_ok-content.ensures.ok in
    c.is_some.ensures
    ∙ taken-tells c.errors.result c.next.new.self c.next.result c.next.ensures.steps
    ∙ ap (λ (fs : List (ℕ × List ℕ)). nat_lt 0 (length fs)) c.errors.ensures
    ∙ ap (λ (w : Whole). nat_lt 0 (length (faults 0 (map (λ (l : Lexed). l.message) w.leaves)))) c.in_ok-lexed.ensures
    ∙ has-messages c.args.edition c.args.text.now c.as_str.result.now c.as_str.utf8 bytes
