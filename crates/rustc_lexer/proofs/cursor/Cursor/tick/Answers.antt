use Rattle.std.proofs.Common.{◌≡◌, ◌==◌, ◌&&◌, ◌||◌, not, get_or, true, false}
use Rattle.rustc_lexer.specs.Characters.{tick, is_id_start, is_digit}
use Rattle.rustc_lexer.specs.Lexeme.{lexeme_in}
use Rattle.rustc_lexer.proofs.Reading.{reads-first}
use Rattle.rustc_lexer.proofs.Cases.{tick-case, char-case}
use Rattle.rustc_lexer.proofs.cursor.Cursor.tick.Goals as goal

pub returns-then-begins_lifetime : goal.returns-then-begins_lifetime
unfolding lexeme_in
returns-then-begins_lifetime c =
    let begins : (not (get_or c.args.self.now 2 0 == tick) && (is_id_start (get_or c.args.self.now 1 0) || is_digit (get_or c.args.self.now 1 0))) ≡ true = cc in
    reads-first tick c.requires (tick-case _ _ begins) c.lifetime.ensures

pub returns : goal.returns
unfolding lexeme_in
returns c =
    let other : (not (get_or c.args.self.now 2 0 == tick) && (is_id_start (get_or c.args.self.now 1 0) || is_digit (get_or c.args.self.now 1 0))) ≡ false = cc in
    reads-first tick c.requires (char-case _ _ other) c.char_literal.ensures
