use Rattle.std.proofs.Common.{◌≡◌, ◌||◌, drop, take, length}
use Rattle.rustc_lexer.specs.Lexeme.{digit_or_underscore, has_digit}
use Rattle.rustc_lexer.specs.Scan.{run_len}
use Rattle.rustc_lexer.proofs.cursor.Cursor.eat_decimal_digits.Given as goal

abbrev pub invariant-run : goal.invariant-run
invariant-run l = record {
  left : drop (run_len digit_or_underscore l.self) l.self ≡ drop (run_len digit_or_underscore l.initial.self) l.initial.self;
  digit : (l.has || has_digit (take (run_len digit_or_underscore l.self) l.self)) ≡ has_digit (take (run_len digit_or_underscore l.initial.self) l.initial.self);
}

abbrev pub decreases-run : goal.decreases-run
decreases-run l = length l.self
