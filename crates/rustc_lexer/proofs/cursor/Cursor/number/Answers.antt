use Rattle.std.proofs.Common.{◌≡◌, get_or, refl, Some, None}
use Rattle.rustc_lexer.specs.Lexeme.{number, base_of, based}
use Rattle.rustc_lexer.proofs.Reading.{reads-next, reads-skip, reads-two, reads-look, reads-give, reads-then, reads-else, reads-along}
use Rattle.rustc_lexer.proofs.cursor.Cursor.number.Goals as goal

pub returns-then-has : goal.returns-then-has
unfolding number based
returns-then-has c =
    let old = c.args.self.now in
    let base : base_of (get_or old 0 0) (get_or old 1 0) ≡ Some c.in-Some.base = cc in
    reads-next _ (reads-look base_of) (reads-along based base (reads-next _ (reads-two c.bump.ensures c.bump-in-Some.ensures)
    (reads-next _ c.eat_digits-has.ensures (reads-then _ c.if-has.true c.fraction.ensures))))

pub returns-else-has : goal.returns-else-has
unfolding number based
returns-else-has c =
    let old = c.args.self.now in
    let base : base_of (get_or old 0 0) (get_or old 1 0) ≡ Some c.in-Some.base = cc in
    reads-next _ (reads-look base_of) (reads-along based base (reads-next _ (reads-two c.bump.ensures c.bump-in-Some.ensures)
    (reads-next _ c.eat_digits-has.ensures (reads-else _ c.if-has.false (reads-give refl)))))

pub returns-in-None : goal.returns-in-None
unfolding number based
returns-in-None c =
    let old = c.args.self.now in
    let base : base_of (get_or old 0 0) (get_or old 1 0) ≡ None = cc in
    reads-next _ (reads-look base_of) (reads-along based base (reads-next _ (reads-skip 1 c.bump-in-None.ensures)
    (reads-next _ c.eat_decimal_digits.ensures c.fraction-in-None.ensures)))
