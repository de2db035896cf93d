use Rattle.std.proofs.Common.{◌≡◌, ◌==◌, ◌||◌, get_or, true, false, refl}
use Rattle.rustc_lexer.specs.Characters.{hash, double_quote}
use Rattle.rustc_lexer.specs.Lexeme.{lexeme_in}
use Rattle.rustc_lexer.proofs.Reading.{reads-first, reads-next, reads-two, reads-give}
use Rattle.rustc_lexer.proofs.Cases.{guard-case, hash-case}
use Rattle.rustc_lexer.proofs.cursor.Cursor.hash.Goals as goal

pub returns-then-opens_raw : goal.returns-then-opens_raw
unfolding lexeme_in
returns-then-opens_raw c =
    let guard : (get_or c.args.self.now 1 0 == hash || get_or c.args.self.now 1 0 == double_quote) ≡ true = cc in
    reads-first hash c.requires (guard-case _ _ guard) (reads-next _ (reads-two c.bump.ensures c.bump-then-opens_raw.ensures) (reads-give refl))

pub returns : goal.returns
returns c =
    let other : (get_or c.args.self.now 1 0 == hash || get_or c.args.self.now 1 0 == double_quote) ≡ false = cc in
    reads-first hash c.requires (hash-case _ _ other) c.single.ensures
