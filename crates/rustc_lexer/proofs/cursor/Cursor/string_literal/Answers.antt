use Rattle.std.proofs.Common.{sym, ap, arith}
use Rattle.rustc_lexer.specs.declared.literals.Body.{Body}
use Rattle.rustc_lexer.specs.declared.token.LiteralKind.{LiteralKind}
use Rattle.rustc_lexer.specs.Lexeme.{string}
use Rattle.rustc_lexer.specs.Strings.{letters}
use Rattle.rustc_lexer.proofs.Reading.{reads-next, reads-more, reads-give, reads-literal, reads-shorter, one-shorter, more-shorter}
use Rattle.rustc_lexer.proofs.cursor.Cursor.string_literal.Goals as goal

pub end_literal-requires : goal.end_literal-requires
end_literal-requires c =
    let letter = more-shorter (letters c.args.kind) c.args.self.now c.eat_letter.ensures in
    let first = one-shorter c.eat_letter.new.self c.bump.ensures in
    let rest = reads-shorter c.eat_quoted-terminated.ensures in
    omega (arith, c.remaining-start.ensures)

pub returns : goal.returns
unfolding string
returns c =
    let K : LiteralKind → Body = λ k. record { kind = k; ends = c.eat_quoted-terminated.result } in
    reads-literal c.remaining-start.result (reads-next _ (reads-more (letters c.args.kind) c.eat_letter.ensures c.bump.ensures) (reads-next _ c.eat_quoted-terminated.ensures (reads-give (ap K (sym c.quoted.ensures)))))
    c.remaining-start.ensures c.end_literal.ensures.kind c.end_literal.ensures.rest
