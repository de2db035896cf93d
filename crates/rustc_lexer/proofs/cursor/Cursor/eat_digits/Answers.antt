use Rattle.rustc_lexer.specs.Lexeme.{digits, digits_of}
use Rattle.rustc_lexer.proofs.Reading.{reads-along}
use Rattle.rustc_lexer.proofs.cursor.Cursor.eat_digits.Goals as goal

pub returns-in-Hexadecimal : goal.returns-in-Hexadecimal
unfolding digits_of
returns-in-Hexadecimal c = reads-along (λ b. digits (digits_of b)) c.in-Hexadecimal.is c.eat_hex_digits.ensures

pub returns-in-Binary : goal.returns-in-Binary
unfolding digits_of
returns-in-Binary c = reads-along (λ b. digits (digits_of b)) c.in-Binary.is c.eat_decimal_digits.ensures

pub returns-in-Octal : goal.returns-in-Octal
unfolding digits_of
returns-in-Octal c = reads-along (λ b. digits (digits_of b)) c.in-Octal.is c.eat_decimal_digits-in-Octal.ensures

pub returns-in-Decimal : goal.returns-in-Decimal
unfolding digits_of
returns-in-Decimal c = reads-along (λ b. digits (digits_of b)) c.in-Decimal.is c.eat_decimal_digits-in-Decimal.ensures
