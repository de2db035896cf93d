use Rattle.std.proofs.Common.{◌≡◌, ◌∙◌, ◌||◌, sym, ap, drop, take, get_or, true, false}
use Rattle.rustc_lexer.specs.Characters.{is_hex_digit}
use Rattle.rustc_lexer.specs.Lexeme.{hex_or_underscore, has_digit}
use Rattle.rustc_lexer.specs.Scan.{run_len}
use Rattle.rustc_lexer.proofs.Runs.{run_more, run_shorter, run_none}
use Rattle.rustc_lexer.proofs.Reading.{digit_more, digit_none, or_joins, or_none, reads-digits}
use Rattle.rustc_lexer.proofs.Wide.{hex_zero}
use Rattle.rustc_lexer.proofs.cursor.Cursor.eat_hex_digits.Goals as goal

pub run-preserved : goal.run-preserved
run-preserved c =
    let here = c.run.self in
    let pass : hex_or_underscore (get_or here 0 0) ≡ true = ap hex_or_underscore (sym c.first.ensures) ∙ sym c.is_hex_or_underscore.ensures ∙ c.run-test.true in
    let hex : c.is_hex_digit-has.result ≡ is_hex_digit (get_or here 0 0) = c.is_hex_digit-has.ensures ∙ ap is_hex_digit c.first-in-run.ensures in
    record {
      left = ap (λ z. drop (run_len hex_or_underscore z) z) c.bump.ensures ∙ run_more hex_or_underscore here hex_zero pass ∙ c.run.invariant.left;
      digit =
          or_joins c.run.has c.is_hex_digit-has.result (has_digit (take (run_len hex_or_underscore c.bump.new.self) c.bump.new.self))
          ∙ ap (λ z. c.run.has || (z || has_digit (take (run_len hex_or_underscore c.bump.new.self) c.bump.new.self))) hex
          ∙ ap (λ z. c.run.has || (is_hex_digit (get_or here 0 0) || has_digit (take (run_len hex_or_underscore z) z))) c.bump.ensures
          ∙ ap (λ z. c.run.has || z) (sym (digit_more hex_or_underscore here hex_zero pass)) ∙ c.run.invariant.digit;
    }

pub run-smaller : goal.run-smaller
run-smaller c =
    let pass : hex_or_underscore (get_or c.run.self 0 0) ≡ true = ap hex_or_underscore (sym c.first.ensures) ∙ sym c.is_hex_or_underscore.ensures ∙ c.run-test.true in
    rw c.bump.ensures (run_shorter hex_or_underscore c.run.self hex_zero pass)

pub returns : goal.returns
returns c =
    let stop : hex_or_underscore (get_or c.run.self 0 0) ≡ false = ap hex_or_underscore (sym c.first.ensures) ∙ sym c.is_hex_or_underscore.ensures ∙ c.run-test.false in
    reads-digits hex_or_underscore (sym (ap (λ n. drop n c.run.self) (run_none hex_or_underscore c.run.self stop)) ∙ c.run.invariant.left)
    (sym (or_none c.run.has) ∙ ap (λ z. c.run.has || z) (sym (digit_none hex_or_underscore c.run.self stop)) ∙ c.run.invariant.digit)
