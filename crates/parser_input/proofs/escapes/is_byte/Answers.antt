use Rattle.std.proofs.Common.{◌∙◌, ◌*◌, ◌+◌, ℕ, sym, ap}
use Rattle.parser_input.specs.Escapes.{hex_digit, fits_byte}
use Rattle.parser_input.proofs.EscapeSteps.{byte-first, byte-second, byte-both}
use Rattle.parser_input.proofs.escapes.is_byte.Goals as goal

pub returns-then-not-is_hex_digit : goal.returns-then-not-is_hex_digit
returns-then-not-is_hex_digit c = byte-first c.args.rules c.args.first c.args.second (sym c.is_hex_digit.ensures ∙ c.if-not-is_hex_digit.true)

pub returns-then-not-is_hex_digit-2 : goal.returns-then-not-is_hex_digit-2
returns-then-not-is_hex_digit-2 c =
    byte-second c.args.rules c.args.first c.args.second (sym c.is_hex_digit.ensures ∙ c.if-not-is_hex_digit.false) (sym c.is_hex_digit-2.ensures ∙ c.if-not-is_hex_digit-2.true)

pub returns : goal.returns
returns c =
    c.fits_byte.ensures
    ∙ ap (λ (n : ℕ). fits_byte c.args.rules (16 * n + c.hex_digit-2.result)) c.hex_digit.ensures.value
    ∙ ap (λ (n : ℕ). fits_byte c.args.rules (16 * hex_digit c.args.first + n)) c.hex_digit-2.ensures.value
    ∙ byte-both c.args.rules c.args.first c.args.second (sym c.is_hex_digit.ensures ∙ c.if-not-is_hex_digit.false) (sym c.is_hex_digit-2.ensures ∙ c.if-not-is_hex_digit-2.false)
