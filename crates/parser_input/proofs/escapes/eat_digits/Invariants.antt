use Rattle.std.proofs.Common.{◌≡◌, ◌+◌, ◌≤◌, length, drop}
use Rattle.rustc_lexer.specs.Scan.{run_len}
use Rattle.parser_input.specs.Escapes.{digits_of, hex_or_underscore, hex_value}
use Rattle.parser_input.proofs.EscapeSteps.{Small}
use Rattle.parser_input.proofs.escapes.eat_digits.Given as goal

abbrev pub invariant-digits : goal.invariant-digits
invariant-digits l = record {
  told : hex_value l.value (digits_of l.rest) ≡ hex_value 0 (digits_of l.initial.rest);
  counted : l.count + length (digits_of l.rest) ≡ length (digits_of l.initial.rest);
  left : drop (run_len hex_or_underscore l.rest) l.rest ≡ drop (run_len hex_or_underscore l.initial.rest) l.initial.rest;
  few : l.count ≤ 6;
  small : Small l.count l.value;
}

abbrev pub decreases-digits : goal.decreases-digits
decreases-digits l = length l.rest
