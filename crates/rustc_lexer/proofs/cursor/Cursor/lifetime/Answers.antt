use Rattle.std.proofs.Common.{◌≡◌, ◌-◌, ◌∙◌, ◌==◌, ◌&&◌, ℕ, not, sym, ap, get_or, take, true, false, refl, arith, if◌then◌else◌}
use Rattle.std.proofs.lemmas.Bool.{ne_eqb}
use Rattle.rustc_lexer.specs.Characters.{tick, hash, is_digit, size}
use Rattle.rustc_lexer.specs.Scan.{skip, begin, ◌▸◌}
use Rattle.rustc_lexer.specs.Lexeme.{lifetime, is_raw, named}
use Rattle.rustc_lexer.specs.Reads.{Reads}
use Rattle.rustc_lexer.specs.declared.token.LiteralKind.TheVariants.{Char}
use Rattle.rustc_lexer.specs.declared.token.TokenKind.{TokenKind}
use Rattle.rustc_lexer.specs.declared.token.TokenKind.TheVariants.{Literal, Lifetime, UnknownPrefixLifetime, RawLifetime}
use Rattle.rustc_lexer.proofs.Reading.{reads-next, reads-skip, reads-two, reads-run, reads-name, reads-look, reads-give, reads-then, reads-else, reads-begin, reads-spelled, reads-size, reads-shorter}
use Rattle.rustc_lexer.proofs.cursor.Cursor.lifetime.Goals as goal

pub returns-then-is_raw : goal.returns-then-is_raw
unfolding lifetime named
returns-then-is_raw c =
    let old = c.bump.new.self in
    let raw : is_raw (get_or old 0 0) (get_or old 1 0) (get_or old 2 0) ≡ true = cc in
    let r : Reads (skip 1 ▸ λ _. begin is_raw named) c.args.self.now (λ (n : ℕ). RawLifetime) c.eat_name.new.self =
    reads-next _ (reads-skip 1 c.bump.ensures) (reads-begin is_raw named raw
    (reads-next _ (reads-two c.bump-then-is_raw.ensures c.bump-then-is_raw-2.ensures) (reads-next _ (reads-name c.eat_name.ensures) (reads-give refl)))) in
    reads-next _ (reads-spelled r) (reads-give refl)

pub overflow_sub-result : goal.overflow_sub-result
unfolding named
overflow_sub-result c =
    let old = c.bump.new.self in
    let plain : is_raw (get_or old 0 0) (get_or old 1 0) (get_or old 2 0) ≡ false = cc in
    let closed : (get_or c.eat_id_continue.new.self 0 0 == tick) ≡ true = ap (λ z. z == tick) (sym c.first-next.ensures ∙ c.if-next-eq39.true) in
    let r : Reads (skip 1 ▸ λ _. begin is_raw named) c.args.self.now (λ (n : ℕ). Literal (Char true) n) c.bump-then-next-eq39.new.self =
    reads-next _ (reads-skip 1 c.bump.ensures) (reads-begin is_raw named plain
    (reads-next _ (reads-look _) (reads-next _ (reads-skip 1 c.bump-2.ensures) (reads-next _ (reads-run _ c.eat_id_continue.ensures) (reads-next _ (reads-look _)
    (reads-then _ closed (reads-next _ (reads-skip 1 c.bump-then-next-eq39.ensures) (reads-give refl)))))))) in
    let less = reads-shorter r in
    omega (arith, c.remaining.ensures, c.remaining-start.ensures)

pub returns-then-next-eq39 : goal.returns-then-next-eq39
unfolding lifetime named
returns-then-next-eq39 c =
    let old = c.bump.new.self in
    let plain : is_raw (get_or old 0 0) (get_or old 1 0) (get_or old 2 0) ≡ false = cc in
    let closed : (get_or c.eat_id_continue.new.self 0 0 == tick) ≡ true = ap (λ z. z == tick) (sym c.first-next.ensures ∙ c.if-next-eq39.true) in
    let r : Reads (skip 1 ▸ λ _. begin is_raw named) c.args.self.now (λ (n : ℕ). Literal (Char true) n) c.bump-then-next-eq39.new.self =
    reads-next _ (reads-skip 1 c.bump.ensures) (reads-begin is_raw named plain
    (reads-next _ (reads-look _) (reads-next _ (reads-skip 1 c.bump-2.ensures) (reads-next _ (reads-run _ c.eat_id_continue.ensures) (reads-next _ (reads-look _)
    (reads-then _ closed (reads-next _ (reads-skip 1 c.bump-then-next-eq39.ensures) (reads-give refl)))))))) in
    let bytes : size (take ((skip 1 ▸ λ _. begin is_raw named) c.args.self.now).taken c.args.self.now) ≡ c.remaining-start.result - c.remaining.result =
    let whole = reads-size r in omega (arith, c.remaining.ensures, c.remaining-start.ensures) in
    let K : ℕ → TokenKind = λ n. Literal (Char true) n in
    reads-next _ (reads-spelled r) (reads-give (ap K bytes))

pub returns : goal.returns
unfolding lifetime named
returns c =
    let old = c.bump.new.self in
    let plain : is_raw (get_or old 0 0) (get_or old 1 0) (get_or old 2 0) ≡ false = cc in
    let going : (get_or c.eat_id_continue.new.self 0 0 == tick) ≡ false = ap (λ z. z == tick) (sym c.first-next.ensures) ∙ ne_eqb _ _ c.if-next-eq39.false in
    let next : c.first-next.result ≡ get_or c.eat_id_continue.new.self 0 0 = c.first-next.ensures in
    let digit : c.is_digit-starts_with_number.result ≡ is_digit (get_or old 0 0) = c.is_digit-starts_with_number.ensures ∙ ap is_digit c.first-2.ensures in
    let K : ℕ → TokenKind = λ z. (if z == hash && not (is_digit (get_or old 0 0)) then UnknownPrefixLifetime else Lifetime (is_digit (get_or old 0 0))) in
    let L : _ → TokenKind = λ d. (if c.first-next.result == hash && not d then UnknownPrefixLifetime else Lifetime d) in
    let r : Reads (skip 1 ▸ λ _. begin is_raw named) c.args.self.now (λ (n : ℕ). K (get_or c.eat_id_continue.new.self 0 0)) c.eat_id_continue.new.self =
    reads-next _ (reads-skip 1 c.bump.ensures) (reads-begin is_raw named plain
    (reads-next _ (reads-look _) (reads-next _ (reads-skip 1 c.bump-2.ensures) (reads-next _ (reads-run _ c.eat_id_continue.ensures) (reads-next _ (reads-look _)
    (reads-else _ going (reads-give refl))))))) in
    reads-next _ (reads-spelled r) (reads-give (ap K (sym next) ∙ ap L (sym digit) ∙ sym c.lifetime_kind.ensures))
