use Rattle.std.proofs.Common.{◌≡◌, ◌∙◌, ◌==◌, sym, ap, get_or, true, false}
use Rattle.std.proofs.lemmas.Bool.{ne_eqb}
use Rattle.rustc_lexer.specs.Characters.{tick, backslash}
use Rattle.rustc_lexer.specs.Scan.{stops_character}
use Rattle.rustc_lexer.proofs.Alike.{alike-trans, alike-at, reads-alike, reads-at, none_left, two_ones}
use Rattle.rustc_lexer.proofs.TickSteps.{tick-close, tick-stop, tick-goes, tick-escape, tick-end}
use Rattle.rustc_lexer.proofs.cursor.Cursor.eat_ticked.Goals as goal

pub returns-then-next-eq39 : goal.returns-then-next-eq39
returns-then-next-eq39 c =
    let here : (get_or c.ticked.self 0 0 == tick) ≡ true = ap (λ z. z == tick) (sym c.first-next.ensures ∙ c.if-next-eq39.true) in
    reads-alike c.ticked.invariant (reads-at c.bump.ensures (tick-close c.ticked.self here))

pub returns-then-stops_character : goal.returns-then-stops_character
returns-then-stops_character c =
    let xs = c.ticked.self in
    let other : (get_or xs 0 0 == tick) ≡ false = ap (λ z. z == tick) (sym c.first-next.ensures) ∙ ne_eqb _ _ c.if-next-eq39.false in
    let stop : stops_character (get_or xs 0 0) (get_or xs 1 0) ≡ true = cc in
    reads-alike c.ticked.invariant (tick-stop xs other stop)

pub ticked-preserved-then-next-eq92 : goal.ticked-preserved-then-next-eq92
ticked-preserved-then-next-eq92 c =
    let xs = c.ticked.self in
    let other : (get_or xs 0 0 == tick) ≡ false = ap (λ z. z == tick) (sym c.first-next.ensures) ∙ ne_eqb _ _ c.if-next-eq39.false in
    let goes : stops_character (get_or xs 0 0) (get_or xs 1 0) ≡ false = cc in
    let slashed : (get_or xs 0 0 == backslash) ≡ true = ap (λ z. z == backslash) (sym c.first-next.ensures ∙ c.if-next-eq92.true) in
    alike-trans (alike-at (two_ones xs c.bump-in-ticked.ensures c.bump-then-next-eq92.ensures) (tick-escape xs other goes slashed)) c.ticked.invariant

pub ticked-preserved : goal.ticked-preserved
ticked-preserved c =
    let xs = c.ticked.self in
    let other : (get_or xs 0 0 == tick) ≡ false = ap (λ z. z == tick) (sym c.first-next.ensures) ∙ ne_eqb _ _ c.if-next-eq39.false in
    let goes : stops_character (get_or xs 0 0) (get_or xs 1 0) ≡ false = cc in
    let plain : (get_or xs 0 0 == backslash) ≡ false = ap (λ z. z == backslash) (sym c.first-next.ensures) ∙ ne_eqb _ _ c.if-next-eq92.false in
    alike-trans (alike-at c.bump-in-ticked.ensures (tick-goes xs other goes plain)) c.ticked.invariant

pub returns : goal.returns
returns c = reads-alike c.ticked.invariant (tick-end c.ticked.self (none_left _ _ c.is_empty.ensures c.ticked-test.false))
