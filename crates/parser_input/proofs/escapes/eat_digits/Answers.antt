use Rattle.std.proofs.Common.{◌≡◌, ◌==◌, ◌+◌, ◌*◌, ◌∙◌, ℕ, List, sym, ap, arith, drop, get_or, length, true, false}
use Rattle.std.proofs.lemmas.Bool.{ne_eqb, eq-eqb}
use Rattle.rustc_lexer.specs.Characters.{underscore, is_hex_digit}
use Rattle.rustc_lexer.specs.Scan.{run_len}
use Rattle.rustc_lexer.proofs.Runs.{run_more, run_shorter, run_none}
use Rattle.parser_input.specs.Escapes.{hex_digit, hex_or_underscore, hex_value, digits_of}
use Rattle.parser_input.proofs.EscapeSteps.{hex-then, hex_zero, digits-underscore, digits-digit, digits-stop, small-more}
use Rattle.parser_input.proofs.escapes.eat_digits.Goals as goal

pub digits-preserved-then-c-eq95 : goal.digits-preserved-then-c-eq95
digits-preserved-then-c-eq95 c =
    let rest = c.digits.rest in
    let h : hex_or_underscore (get_or rest 0 0) ≡ true = ap hex_or_underscore (sym c.first.ensures) ∙ sym c.is_hex_or_underscore.ensures ∙ c.digits-test.true in
    let under : (get_or rest 0 0 == underscore) ≡ true = eq-eqb (get_or rest 0 0) underscore (sym c.first-c.ensures ∙ c.if-c-eq95.true) in
    let same = digits-underscore rest h under in
    record {
      told = ap (λ (t : List ℕ). hex_value c.digits.value (digits_of t)) c.bump.ensures ∙ ap (λ (d : List ℕ). hex_value c.digits.value d) same ∙ c.digits.invariant.told;
      counted = omega (arith, ap (λ (t : List ℕ). length (digits_of t)) c.bump.ensures, ap (λ (d : List ℕ). length d) same, c.digits.invariant.counted);
      left = ap (λ (t : List ℕ). drop (run_len hex_or_underscore t) t) c.bump.ensures ∙ run_more hex_or_underscore rest hex_zero h ∙ c.digits.invariant.left;
      few = c.digits.invariant.few;
      small = c.digits.invariant.small;
    }

pub returns-then-count-eq6 : goal.returns-then-count-eq6
returns-then-count-eq6 c =
    let rest = c.digits.rest in
    let h : hex_or_underscore (get_or rest 0 0) ≡ true = ap hex_or_underscore (sym c.first.ensures) ∙ sym c.is_hex_or_underscore.ensures ∙ c.digits-test.true in
    let other : (get_or rest 0 0 == underscore) ≡ false = ne_eqb (get_or rest 0 0) underscore (λ e. c.if-c-eq95.false (c.first-c.ensures ∙ e)) in
    let parts = digits-digit rest h other in
    omega (arith, ap (λ (d : List ℕ). length d) parts, c.digits.invariant.counted, c.if-count-eq6.true)

pub hex_digit-requires : goal.hex_digit-requires
hex_digit-requires c =
    let rest = c.digits.rest in
    let h : hex_or_underscore (get_or rest 0 0) ≡ true = ap hex_or_underscore (sym c.first.ensures) ∙ sym c.is_hex_or_underscore.ensures ∙ c.digits-test.true in
    let other : (get_or rest 0 0 == underscore) ≡ false = ne_eqb (get_or rest 0 0) underscore (λ e. c.if-c-eq95.false (c.first-c.ensures ∙ e)) in
    ap is_hex_digit c.first-c.ensures ∙ hex-then (get_or rest 0 0) other h

pub digits-smaller : goal.digits-smaller
digits-smaller c =
    let rest = c.digits.rest in
    let h : hex_or_underscore (get_or rest 0 0) ≡ true = ap hex_or_underscore (sym c.first.ensures) ∙ sym c.is_hex_or_underscore.ensures ∙ c.digits-test.true in
    rw c.bump.ensures (run_shorter hex_or_underscore rest hex_zero h)

pub digits-preserved : goal.digits-preserved
unfolding hex_value
digits-preserved c =
    let rest = c.digits.rest in
    let value = c.digits.value in
    let h : hex_or_underscore (get_or rest 0 0) ≡ true = ap hex_or_underscore (sym c.first.ensures) ∙ sym c.is_hex_or_underscore.ensures ∙ c.digits-test.true in
    let other : (get_or rest 0 0 == underscore) ≡ false = ne_eqb (get_or rest 0 0) underscore (λ e. c.if-c-eq95.false (c.first-c.ensures ∙ e)) in
    let parts = digits-digit rest h other in
    let digit = c.hex_digit.ensures.value ∙ ap hex_digit c.first-c.ensures in
    record {
      told =
          ap (λ (t : List ℕ). hex_value (16 * value + c.hex_digit.result) (digits_of t)) c.bump.ensures
          ∙ ap (λ (n : ℕ). hex_value (16 * value + n) (digits_of (drop 1 rest))) digit
          ∙ ap (λ (d : List ℕ). hex_value value d) (sym parts) ∙ c.digits.invariant.told;
      counted = omega (arith, ap (λ (t : List ℕ). length (digits_of t)) c.bump.ensures, ap (λ (d : List ℕ). length d) parts, c.digits.invariant.counted);
      left = ap (λ (t : List ℕ). drop (run_len hex_or_underscore t) t) c.bump.ensures ∙ run_more hex_or_underscore rest hex_zero h ∙ c.digits.invariant.left;
      few = omega (arith, c.digits.invariant.few, c.if-count-eq6.false);
      small = small-more c.digits.count value c.hex_digit.result c.digits.invariant.small c.hex_digit.ensures.range;
    }

pub returns : goal.returns
unfolding hex_value
returns c =
    let rest = c.digits.rest in
    let h : hex_or_underscore (get_or rest 0 0) ≡ false = ap hex_or_underscore (sym c.first.ensures) ∙ sym c.is_hex_or_underscore.ensures ∙ c.digits-test.false in
    let none = digits-stop rest h in (
      omega (arith, ap (λ (d : List ℕ). length d) none, c.digits.invariant.counted, c.digits.invariant.few),
      sym (ap (λ (d : List ℕ). hex_value c.digits.value d) none) ∙ c.digits.invariant.told,
      sym (ap (λ (n : ℕ). drop n rest) (run_none hex_or_underscore rest h)) ∙ c.digits.invariant.left,
    )
