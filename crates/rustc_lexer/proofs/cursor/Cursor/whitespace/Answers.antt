use Rattle.std.proofs.Common.{◌∙◌, sym, refl}
use Rattle.rustc_lexer.specs.Characters.{is_whitespace}
use Rattle.rustc_lexer.specs.Lexeme.{lexeme_in}
use Rattle.rustc_lexer.proofs.Reading.{reads-next, reads-skip, reads-run, reads-give}
use Rattle.rustc_lexer.proofs.Runs.{run_more}
use Rattle.rustc_lexer.proofs.Wide.{white_zero}
use Rattle.rustc_lexer.proofs.cursor.Cursor.whitespace.Goals as goal

pub returns : goal.returns
unfolding lexeme_in
returns c =
    let rest = c.eat_whitespace.ensures ∙ sym (run_more is_whitespace c.args.self.now white_zero c.requires) in
    reads-next _ (reads-skip 1 refl) (reads-next _ (reads-run _ rest) (reads-give refl))
