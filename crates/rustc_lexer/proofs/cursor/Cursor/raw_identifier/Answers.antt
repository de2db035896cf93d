use Rattle.std.proofs.Common.{refl}
use Rattle.rustc_lexer.specs.Lexeme.{raw_identifier}
use Rattle.rustc_lexer.proofs.Reading.{reads-next, reads-two, reads-name, reads-give}
use Rattle.rustc_lexer.proofs.cursor.Cursor.raw_identifier.Goals as goal

pub returns : goal.returns
unfolding raw_identifier
returns c = reads-next _ (reads-two c.bump.ensures c.bump-2.ensures) (reads-next _ (reads-name c.eat_name.ensures) (reads-give refl))
