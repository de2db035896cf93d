use Rattle.std.proofs.Common.{◌≡◌, sym, ap, get_or, true, false, refl}
use Rattle.rustc_lexer.specs.Characters.{is_digit}
use Rattle.rustc_lexer.specs.Lexeme.{fraction, is_point}
use Rattle.rustc_lexer.specs.declared.literals.Body.{Body}
use Rattle.rustc_lexer.specs.declared.token.LiteralKind.{LiteralKind}
use Rattle.rustc_lexer.proofs.Reading.{reads-next, reads-skip, reads-look, reads-give, reads-then, reads-else}
use Rattle.rustc_lexer.proofs.cursor.Cursor.fraction.Goals as goal

whole : LiteralKind → Body
whole k = record { kind = k; ends = true }

pub returns-then-not-is_point : goal.returns-then-not-is_point
unfolding fraction whole
returns-then-not-is_point c =
    let old = c.args.self.now in
    let other : is_point (get_or old 0 0) (get_or old 1 0) ≡ false = cc in
    reads-next _ (reads-look is_point) (reads-else _ other (reads-next _ c.eat_exponent-exponent.ensures (reads-give (ap whole (sym c.plain_kind.ensures)))))

pub returns-then-not-is_digit : goal.returns-then-not-is_digit
unfolding fraction
returns-then-not-is_digit c =
    let old = c.args.self.now in
    let point : is_point (get_or old 0 0) (get_or old 1 0) ≡ true = cc in
    let other : is_digit (get_or c.bump.new.self 0 0) ≡ false = cc in
    reads-next _ (reads-look is_point) (reads-then _ point (reads-next _ (reads-skip 1 c.bump.ensures) (reads-next _ (reads-look _) (reads-else _ other (reads-give refl)))))

pub returns : goal.returns
unfolding fraction whole
returns c =
    let old = c.args.self.now in
    let point : is_point (get_or old 0 0) (get_or old 1 0) ≡ true = cc in
    let digit : is_digit (get_or c.bump.new.self 0 0) ≡ true = cc in
    reads-next _ (reads-look is_point) (reads-then _ point (reads-next _ (reads-skip 1 c.bump.ensures) (reads-next _ (reads-look _) (reads-then _ digit
    (reads-next _ c.eat_decimal_digits.ensures (reads-next _ c.eat_exponent-exponent-2.ensures (reads-give (ap whole (sym c.dotted_kind.ensures)))))))))
