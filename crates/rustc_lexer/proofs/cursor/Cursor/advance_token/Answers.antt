use Rattle.std.proofs.Common.{◌≡◌, ◌-◌, ◌∙◌, ℕ, sym, ap, drop, take, length, arith}
use Rattle.rustc_lexer.specs.Characters.{size}
use Rattle.rustc_lexer.specs.Lexeme.{lexeme}
use Rattle.rustc_lexer.specs.Tokens.{first_lexeme, token}
use Rattle.rustc_lexer.specs.declared.token.Token.{Token}
use Rattle.rustc_lexer.specs.declared.token.TokenKind.{TokenKind}
use Rattle.rustc_lexer.proofs.Alike.{some_left, none_left}
use Rattle.rustc_lexer.proofs.Reading.{reads-size, reads-shorter}
use Rattle.rustc_lexer.proofs.Cutting.{next-some, next-none, first-length}
use Rattle.rustc_lexer.proofs.cursor.Cursor.advance_token.Goals as goal

pub returns-then-is_empty-clause-is_next : goal.returns-then-is_empty-clause-is_next
unfolding size
returns-then-is_empty-clause-is_next c =
    let none = none_left _ _ c.is_empty.ensures c.if-is_empty.true in
    ap token (sym (next-none c.args.self.now none))

pub overflow_sub-result : goal.overflow_sub-result
overflow_sub-result c = let less = reads-shorter c.lexeme-kind.ensures in omega (arith, c.remaining.ensures, c.remaining-start.ensures)

pub returns-clause-is_next : goal.returns-clause-is_next
unfolding first_lexeme
returns-clause-is_next c =
    let old = c.args.self.now in
    let first = next-some old (some_left _ _ c.is_empty.ensures c.if-is_empty.false) in
    let bytes : size (take (lexeme old).taken old) ≡ c.remaining-start.result - c.remaining.result =
    let whole = reads-size c.lexeme-kind.ensures in omega (arith, c.remaining.ensures, c.remaining-start.ensures) in
    let K : TokenKind → Token = λ k. record { kind = k; len = c.remaining-start.result - c.remaining.result } in
    let L : ℕ → Token = λ n. record { kind = (lexeme old).value; len = n } in
    ap K (sym c.lexeme-kind.ensures.value_is) ∙ ap L (sym bytes) ∙ ap token (sym first)

pub returns-clause-rest : goal.returns-clause-rest
returns-clause-rest c =
    let old = c.args.self.now in
    let first = next-some old (some_left _ _ c.is_empty.ensures c.if-is_empty.false) in
    c.lexeme-kind.ensures.rest_is ∙ ap (λ n. drop n old) (sym (ap (λ l. length l.text) first ∙ first-length old))
