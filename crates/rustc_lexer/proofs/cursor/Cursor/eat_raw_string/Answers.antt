use Rattle.std.proofs.Common.{◌≡◌, ◌∙◌, ◌==◌, sym, ap, get_or, true, false, refl}
use Rattle.std.proofs.lemmas.Bool.{ne_eqb}
use Rattle.rustc_lexer.specs.Characters.{double_quote}
use Rattle.rustc_lexer.specs.Lexeme.{raw_end}
use Rattle.rustc_lexer.proofs.Reading.{reads-next, reads-look, reads-then, reads-else, reads-skip, reads-give}
use Rattle.rustc_lexer.proofs.cursor.Cursor.eat_raw_string.Goals as goal

pub returns-then-not-quote : goal.returns-then-not-quote
unfolding raw_end
returns-then-not-quote c =
    let other : (get_or c.eat_hashes-hashes.new.self 0 0 == double_quote) ≡ false = ap (λ z. z == double_quote) (sym c.first-quote.ensures) ∙ ne_eqb _ _ c.if-not-quote.true in
    reads-next _ c.eat_hashes-hashes.ensures (reads-next _ (reads-look _) (reads-next _ (reads-skip 1 c.bump.ensures) (reads-else _ other (reads-give refl))))

pub returns : goal.returns
unfolding raw_end
returns c =
    let quote : (get_or c.eat_hashes-hashes.new.self 0 0 == double_quote) ≡ true = ap (λ z. z == double_quote) (sym c.first-quote.ensures ∙ c.if-not-quote.false) in
    reads-next _ c.eat_hashes-hashes.ensures (reads-next _ (reads-look _) (reads-next _ (reads-skip 1 c.bump.ensures)
    (reads-then _ quote (reads-next _ c.eat_raw-closed.ensures (reads-give (sym c.counted.ensures))))))
