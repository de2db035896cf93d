use Rattle.std.proofs.Common.{◌∙◌, sym, ap, refl}
use Rattle.rustc_lexer.specs.Lexeme.{exponent, is_exponent}
use Rattle.rustc_lexer.proofs.Reading.{reads-next, reads-skip, reads-look, reads-give, reads-then, reads-else, reads-optional}
use Rattle.rustc_lexer.proofs.cursor.Cursor.eat_exponent.Goals as goal

pub returns-then-not-is_exponent : goal.returns-then-not-is_exponent
unfolding exponent
returns-then-not-is_exponent c =
    reads-next _ (reads-look _) (reads-else _ (ap is_exponent (sym c.first.ensures) ∙ sym c.is_exponent.ensures ∙ c.if-not-is_exponent.true) (reads-give refl))

pub returns : goal.returns
unfolding exponent
returns c =
    reads-next _ (reads-look _) (reads-then _ (ap is_exponent (sym c.first.ensures) ∙ sym c.is_exponent.ensures ∙ c.if-not-is_exponent.false)
    (reads-next _ (reads-skip 1 c.bump.ensures)
    (reads-next _ (reads-look _)
    (reads-next _ (reads-optional _ c.eat_sign.ensures)
    (reads-next _ c.eat_decimal_digits-has.ensures (reads-give refl))))))
