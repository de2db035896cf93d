use Rattle.std.proofs.Common.{◌≡◌, get_or, true, false, refl}
use Rattle.rustc_lexer.specs.Lexeme.{character_end, is_single}
use Rattle.rustc_lexer.proofs.Reading.{reads-next, reads-look, reads-then, reads-else, reads-two, reads-give}
use Rattle.rustc_lexer.proofs.cursor.Cursor.eat_character.Goals as goal

pub returns-then-is_single : goal.returns-then-is_single
unfolding character_end
returns-then-is_single c =
    let single : is_single (get_or c.args.self.now 0 0) (get_or c.args.self.now 1 0) ≡ true = cc in
    reads-next _ (reads-look is_single) (reads-then _ single (reads-next _ (reads-two c.bump.ensures c.bump-then-is_single.ensures) (reads-give refl)))

pub returns : goal.returns
unfolding character_end
returns c =
    let single : is_single (get_or c.args.self.now 0 0) (get_or c.args.self.now 1 0) ≡ false = cc in
    reads-next _ (reads-look is_single) (reads-else _ single c.eat_ticked.ensures)
