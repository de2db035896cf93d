use Rattle.std.proofs.Common.{◌+◌, ◌≤◌, length, chars}
use Rattle.rustc_lexer.specs.Characters.{size}
use Rattle.lexed_text.proofs.Turns.{Turn}
use Rattle.lexed_text.proofs.relex.lex.Given as goal

abbrev pub invariant-lexing : goal.invariant-lexing
invariant-lexing l = record {
  turn : Turn l.old (chars l.text) l.fn.front.count l.most l.cursor l.tokens.items l.lexed l.at.count l.at.bytes;
  fits : l.lexed + size l.cursor ≤ length l.text;
}

abbrev pub decreases-lexing : goal.decreases-lexing
decreases-lexing l = size l.cursor
