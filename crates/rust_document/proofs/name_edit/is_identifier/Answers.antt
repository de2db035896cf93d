-- The first token is the name.
use Rattle.std.proofs.Common.{ap, ◌∙◌}
use Rattle.std.proofs.lemmas.Bool.{eqb-true, eq-eqb, false≢true}
use Rattle.rustc_lexer.specs.Tokens.{next_lexeme, token}
use Rattle.rust_document.proofs.FirstNames.{first-kind, first-len, name-first}
use Rattle.rust_document.proofs.name_edit.is_identifier.Goals as goal

pub returns-in-Ident : goal.returns-in-Ident
returns-in-Ident c =
    let own = c.advance_token-token.ensures.is_next ∙ ap (λ cs. token (next_lexeme cs)) c.new.ensures in (
      λ same. name-first c.args.text.now c.args.name.now c.requires.0 c.advance_token-token.result c.utf8.name c.requires.1 own (c.in-Ident.is) (eqb-true _ _ same),
      λ is. eq-eqb _ _ (first-len c.args.text.now c.args.name.now c.advance_token-token.result c.utf8.name own is),
    )

pub returns-in_default : goal.returns-in_default
returns-in_default c =
    let own = c.advance_token-token.ensures.is_next ∙ ap (λ cs. token (next_lexeme cs)) c.new.ensures in (
      λ no. absurd (false≢true no),
      λ is. absurd (c.in_default.not-Ident (first-kind c.args.text.now _ c.advance_token-token.result own is)),
    )
