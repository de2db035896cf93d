use Rattle.std.proofs.Common.{◌∙◌, ◌==◌, sym, ap}
use Rattle.std.proofs.lemmas.Bool.{ne_eqb}
use Rattle.rustc_lexer.specs.Characters.{slash, star}
use Rattle.rustc_lexer.specs.Lexeme.{lexeme_in}
use Rattle.rustc_lexer.proofs.Reading.{reads-first}
use Rattle.rustc_lexer.proofs.Cases.{line-case, block-case, slash-case}
use Rattle.rustc_lexer.proofs.cursor.Cursor.slash.Goals as goal

pub returns-then-second-eq47 : goal.returns-then-second-eq47
unfolding lexeme_in
returns-then-second-eq47 c =
    reads-first slash c.requires (line-case _ _ (ap (λ z. z == slash) (sym c.second-second.ensures ∙ c.if-second-eq47.true))) c.line_comment.ensures

pub returns-then-second-eq42 : goal.returns-then-second-eq42
unfolding lexeme_in
returns-then-second-eq42 c =
    reads-first slash c.requires (block-case _ _ (ap (λ z. z == slash) (sym c.second-second.ensures) ∙ ne_eqb _ _ c.if-second-eq47.false) (ap (λ z. z == star) (sym c.second-second.ensures ∙ c.if-second-eq42.true))) c.block_comment.ensures

pub returns : goal.returns
returns c =
    reads-first slash c.requires (slash-case _ _ (ap (λ z. z == slash) (sym c.second-second.ensures) ∙ ne_eqb _ _ c.if-second-eq47.false) (ap (λ z. z == star) (sym c.second-second.ensures) ∙ ne_eqb _ _ c.if-second-eq42.false)) c.single.ensures
