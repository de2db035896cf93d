use Rattle.std.proofs.Common.{◌∙◌, sym}
use Rattle.rustc_lexer.proofs.Alike.{alike-trans, alike-at, reads-alike, reads-at, none_left, two_ones}
use Rattle.rustc_lexer.proofs.QuotedSteps.{quoted-plain, quoted-close, quoted-next, quoted-end}
use Rattle.rustc_lexer.proofs.cursor.Cursor.eat_quoted.Goals as goal

pub returns-then-first-eq34 : goal.returns-then-first-eq34
returns-then-first-eq34 c =
    reads-alike (alike-trans (alike-at c.eat_plain.ensures (quoted-plain c.quoted.self)) c.quoted.invariant)
    (reads-at c.bump.ensures (quoted-close c.eat_plain.new.self (sym c.first.ensures ∙ c.if-first-eq34.true)))

pub quoted-preserved : goal.quoted-preserved
quoted-preserved c =
    alike-trans
    (alike-at (two_ones c.eat_plain.new.self c.bump-in-quoted.ensures c.bump-in-quoted-2.ensures)
    (quoted-next c.quoted.self c.eat_plain.new.self c.eat_plain.ensures (λ h. c.if-first-eq34.false (c.first.ensures ∙ h))))
    c.quoted.invariant

pub returns : goal.returns
returns c = reads-alike c.quoted.invariant (quoted-end c.quoted.self (none_left _ _ c.is_empty.ensures c.quoted-test.false))
