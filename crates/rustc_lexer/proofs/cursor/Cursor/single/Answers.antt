use Rattle.std.proofs.Common.{◌∙◌, sym, ap}
use Rattle.rustc_lexer.specs.Lexeme.{lexeme_in, sign}
use Rattle.rustc_lexer.proofs.Reading.{reads-next, reads-skip, reads-look, reads-give}
use Rattle.rustc_lexer.proofs.cursor.Cursor.single.Goals as goal

pub returns : goal.returns
unfolding lexeme_in
returns c =
    reads-next _ (reads-look _) (reads-next _ (reads-skip 1 c.bump.ensures) (reads-give (ap sign (sym c.first.ensures) ∙ sym c.sign-kind.ensures)))
