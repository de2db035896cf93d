use Rattle.std.proofs.Common.{◌≡◌, ◌+◌, ◌∙◌, ℕ, List, sym, ap, arith, drop, get_or, true}
use Rattle.std.proofs.lemmas.Bool.{ne_eqb, eq-eqb}
use Rattle.std.proofs.lemmas.List.{get_or-drop}
use Rattle.rustc_lexer.specs.Characters.{is_hex_digit}
use Rattle.rustc_lexer.specs.Scan.{run_len}
use Rattle.parser_input.specs.Escapes.{hex_or_underscore, fits_unicode}
use Rattle.parser_input.proofs.EscapeSteps.{unicode-digit, unicode-many, unicode-open, unicode-closed}
use Rattle.parser_input.proofs.escapes.eat_unicode.Goals as goal

-- the character after the digits
after : (t new : List ℕ) (first : ℕ) → new ≡ drop (run_len hex_or_underscore t) t → first ≡ get_or new 0 0 → first ≡ get_or t (run_len hex_or_underscore t) 0
after t new first is e =
    let n = run_len hex_or_underscore t in
    e ∙ ap (λ (x : List ℕ). get_or x 0 0) is ∙ get_or-drop n t 0 0 ∙ ap (λ (k : ℕ). get_or t k 0) (let z : n + 0 ≡ n = omega arith in z)

pub returns-then-not-is_hex_digit-clause-told : goal.returns-then-not-is_hex_digit-clause-told
returns-then-not-is_hex_digit-clause-told c =
    unicode-digit c.args.rules c.args.rest.now (ap is_hex_digit (sym c.first.ensures) ∙ sym c.is_hex_digit.ensures ∙ c.if-not-is_hex_digit.true)

pub returns-then-first-ne125-clause-told : goal.returns-then-first-ne125-clause-told
returns-then-first-ne125-clause-told c =
    let t = c.args.rest.now in
    let h : is_hex_digit (get_or t 0 0) ≡ true = ap is_hex_digit (sym c.first.ensures) ∙ sym c.is_hex_digit.ensures ∙ c.if-not-is_hex_digit.false in
    let at = after t c.eat_digits.new.rest c.first-in-Some.result c.in-Some.ensures.2 c.first-in-Some.ensures in
    unicode-open c.args.rules t h c.in-Some.ensures.0 (ne_eqb (get_or t (run_len hex_or_underscore t) 0) 125 (λ e. c.if-first-ne125.true (at ∙ e)))

pub returns-else-first-ne125-clause-told : goal.returns-else-first-ne125-clause-told
returns-else-first-ne125-clause-told c =
    let t = c.args.rest.now in
    let h : is_hex_digit (get_or t 0 0) ≡ true = ap is_hex_digit (sym c.first.ensures) ∙ sym c.is_hex_digit.ensures ∙ c.if-not-is_hex_digit.false in
    let at = after t c.eat_digits.new.rest c.first-in-Some.result c.in-Some.ensures.2 c.first-in-Some.ensures in
    c.fits_unicode.ensures ∙ ap (λ (n : ℕ). fits_unicode c.args.rules n) c.in-Some.ensures.1
    ∙ unicode-closed c.args.rules t h c.in-Some.ensures.0 (eq-eqb (get_or t (run_len hex_or_underscore t) 0) 125 (sym at ∙ c.if-first-ne125.false))

pub returns-in-None-clause-told : goal.returns-in-None-clause-told
returns-in-None-clause-told c =
    let t = c.args.rest.now in
    let h : is_hex_digit (get_or t 0 0) ≡ true = ap is_hex_digit (sym c.first.ensures) ∙ sym c.is_hex_digit.ensures ∙ c.if-not-is_hex_digit.false in
    unicode-many c.args.rules t h c.in-None.ensures
