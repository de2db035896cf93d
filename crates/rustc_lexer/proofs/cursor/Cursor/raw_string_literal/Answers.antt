use Rattle.std.proofs.Common.{Bool, ap, sym, ◌∙◌, arith}
use Rattle.rustc_lexer.specs.declared.literals.Body.{Body}
use Rattle.rustc_lexer.specs.declared.token.LiteralKind.{LiteralKind}
use Rattle.rustc_lexer.specs.Lexeme.{raw_string}
use Rattle.rustc_lexer.specs.Strings.{letters, raw_kind}
use Rattle.rustc_lexer.proofs.Reading.{reads-next, reads-more, reads-give, reads-literal, reads-shorter, one-shorter, more-shorter}
use Rattle.rustc_lexer.proofs.cursor.Cursor.raw_string_literal.Goals as goal

pub end_literal-requires : goal.end_literal-requires
end_literal-requires c =
    let letter = more-shorter (letters c.args.kind) c.args.self.now c.eat_letter.ensures in
    let first = one-shorter c.eat_letter.new.self c.bump.ensures in
    let rest = reads-shorter c.eat_raw_string-n_hashes.ensures in
    omega (arith, c.remaining-start.ensures)

pub returns : goal.returns
unfolding raw_string
returns c =
    let hashes = c.eat_raw_string-n_hashes.result in
    let E : Bool → Body = λ e. record { kind = raw_kind c.args.kind hashes; ends = e } in
    let K : LiteralKind → Body = λ k. record { kind = k; ends = c.is_some.result } in
    reads-literal c.remaining-start.result (reads-next _ (reads-more (letters c.args.kind) c.eat_letter.ensures c.bump.ensures) (reads-next _ c.eat_raw_string-n_hashes.ensures
    (reads-give (ap E (sym c.is_some.ensures) ∙ ap K (sym c.raw.ensures)))))
    c.remaining-start.ensures c.end_literal.ensures.kind c.end_literal.ensures.rest
