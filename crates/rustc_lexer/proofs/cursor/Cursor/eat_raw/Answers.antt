use Rattle.std.proofs.Common.{◌≡◌, ◌∙◌, ◌==◌, sym, ap, drop, get_or, true, false, if◌then◌else◌}
use Rattle.std.proofs.lemmas.Bool.{ne_eqb}
use Rattle.rustc_lexer.specs.Characters.{double_quote}
use Rattle.rustc_lexer.specs.Scan.{hashes_follow}
use Rattle.rustc_lexer.proofs.Alike.{alike-trans, alike-at, reads-alike, reads-at, none_left}
use Rattle.rustc_lexer.proofs.RawSteps.{raw-plain, raw-closed, raw-past, raw-nothing, raw-end}
use Rattle.rustc_lexer.proofs.cursor.Cursor.eat_raw.Goals as goal
use Rattle.rustc_lexer.proofs.cursor.Cursor.eat_raw.Goals.{else-quote-via-then-quote+else-eat_closing_hashes, else-quote-via-else-quote}

pub returns-then-eat_closing_hashes : goal.returns-then-eat_closing_hashes
returns-then-eat_closing_hashes c =
    let n = c.args.hashes in
    let ys = c.eat_unquoted.new.self in
    let there : c.eat_closing_hashes.result ≡ true = c.if-eat_closing_hashes.true in
    let quote : get_or ys 0 0 ≡ double_quote = sym c.first-quote.ensures ∙ c.if-quote.true in
    let follow : hashes_follow n (drop 1 ys) ≡ true = ap (λ z. hashes_follow n z) (sym c.bump.ensures) ∙ sym c.eat_closing_hashes.ensures.told ∙ there in
    let rest : c.eat_closing_hashes.new.self ≡ drop n (drop 1 ys) =
    c.eat_closing_hashes.ensures.rest ∙ ap (λ b. if b then drop n c.bump.new.self else c.bump.new.self) there ∙ ap (λ z. drop n z) c.bump.ensures in
    reads-alike (alike-trans (alike-at c.eat_unquoted.ensures (raw-plain n c.raw.self)) c.raw.invariant)
    (reads-at rest (raw-closed n ys quote follow))

pub raw-preserved : goal.raw-preserved
raw-preserved c =
    let n = c.args.hashes in
    let ys = c.eat_unquoted.new.self in
    elim c.else-quote.branch [
      | else-quote-via-then-quote+else-eat_closing_hashes w ↦
          let other : w.eat_closing_hashes.result ≡ false = w.if-eat_closing_hashes.false in
          let follow : hashes_follow n (drop 1 ys) ≡ false = ap (λ z. hashes_follow n z) (sym c.bump.ensures) ∙ sym w.eat_closing_hashes.ensures.told ∙ other in
          let rest : c.else-quote.self ≡ drop 1 ys =
          w.self-is ∙ w.eat_closing_hashes.ensures.rest ∙ ap (λ b. if b then drop n c.bump.new.self else c.bump.new.self) other ∙ c.bump.ensures in
          alike-trans (alike-at rest (raw-past n ys follow)) (alike-trans (alike-at c.eat_unquoted.ensures (raw-plain n c.raw.self)) c.raw.invariant)
      | else-quote-via-else-quote w ↦
          let other : (get_or ys 0 0 == double_quote) ≡ false = ap (λ z. z == double_quote) (sym c.first-quote.ensures) ∙ ne_eqb _ _ w.if-quote.false in
          alike-trans (alike-at (w.self-is ∙ c.bump.ensures) (raw-nothing n c.raw.self ys c.eat_unquoted.ensures other)) c.raw.invariant
    ]

pub returns : goal.returns
returns c = reads-alike c.raw.invariant (raw-end c.args.hashes c.raw.self (none_left _ _ c.is_empty.ensures c.raw-test.false))
