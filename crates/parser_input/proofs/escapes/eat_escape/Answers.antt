use Rattle.std.proofs.Common.{◌≡◌, ◌==◌, ◌+◌, ◌∙◌, ℕ, List, refl, sym, ap, arith, drop, get_or, true, false}
use Rattle.std.proofs.lemmas.Bool.{ne_eqb, eq-eqb}
use Rattle.std.proofs.lemmas.List.{drop-drop}
use Rattle.rustc_lexer.specs.Scan.{run_len}
use Rattle.rustc_lexer.proofs.Alike.{two_ones}
use Rattle.parser_input.specs.Escapes.{hex_or_underscore, is_byte, is_simple, is_unicode, opens_unicode}
use Rattle.parser_input.specs.declared.escapes.Rules.{Rules}
use Rattle.parser_input.proofs.EscapeSteps.{pass-some, pass-none, escape-simple, escape-byte, escape-no-byte, escape-other, escape-unicode, unicode-passes}
use Rattle.parser_input.proofs.escapes.eat_escape.Goals as goal

pub returns-then-is_simple : goal.returns-then-is_simple
returns-then-is_simple c =
    let r = c.args.rules in
    let t = c.args.rest.now in
    let simple : is_simple r (get_or t 0 0) ≡ true = ap (λ (n : ℕ). is_simple r n) (sym c.first-first.ensures) ∙ sym c.is_simple.ensures ∙ c.if-is_simple.true in
    pass-some _ t c.bump.new.self 1 (escape-simple r t simple) c.bump.ensures

byte_told : (r : Rules) (t : List ℕ) (a b : ℕ) → a ≡ get_or t 1 0 → b ≡ get_or t 2 0 → is_byte r a b ≡ is_byte r (get_or t 1 0) (get_or t 2 0)
byte_told r t a b e f = rw (e, f) refl

pub returns-then-is_byte : goal.returns-then-is_byte
returns-then-is_byte c =
    let r = c.args.rules in
    let t = c.args.rest.now in
    let simple : is_simple r (get_or t 0 0) ≡ false = ap (λ (n : ℕ). is_simple r n) (sym c.first-first.ensures) ∙ sym c.is_simple.ensures ∙ c.if-is_simple.false in
    let x : (get_or t 0 0 == 120) ≡ true = eq-eqb (get_or t 0 0) 120 (sym c.first-first.ensures ∙ c.if-first-eq120.true) in
    let byte = sym (byte_told r t c.second.result c.third.result c.second.ensures c.third.ensures) ∙ sym c.is_byte.ensures ∙ c.if-is_byte.true in
    let two = two_ones t c.bump-then-is_byte.ensures c.bump-then-is_byte-2.ensures in
    pass-some _ t _ 3 (escape-byte r t simple x byte) (c.bump-then-is_byte-3.ensures ∙ ap (λ (z : List ℕ). drop 1 z) two ∙ drop-drop 1 2 t)

pub returns-then-first-eq120 : goal.returns-then-first-eq120
returns-then-first-eq120 c =
    let r = c.args.rules in
    let t = c.args.rest.now in
    let simple : is_simple r (get_or t 0 0) ≡ false = ap (λ (n : ℕ). is_simple r n) (sym c.first-first.ensures) ∙ sym c.is_simple.ensures ∙ c.if-is_simple.false in
    let x : (get_or t 0 0 == 120) ≡ true = eq-eqb (get_or t 0 0) 120 (sym c.first-first.ensures ∙ c.if-first-eq120.true) in
    let byte = sym (byte_told r t c.second.result c.third.result c.second.ensures c.third.ensures) ∙ sym c.is_byte.ensures ∙ c.if-is_byte.false in
    pass-none _ t t (escape-no-byte r t simple x byte)

opens_told : (r : Rules) (t : List ℕ) (a b : ℕ) → a ≡ get_or t 0 0 → b ≡ get_or t 1 0 → opens_unicode r a b ≡ opens_unicode r (get_or t 0 0) (get_or t 1 0)
opens_told r t a b e f = rw (e, f) refl

pub returns-then-opens_unicode : goal.returns-then-opens_unicode
returns-then-opens_unicode c =
    let r = c.args.rules in
    let t = c.args.rest.now in
    let simple : is_simple r (get_or t 0 0) ≡ false = ap (λ (n : ℕ). is_simple r n) (sym c.first-first.ensures) ∙ sym c.is_simple.ensures ∙ c.if-is_simple.false in
    let x : (get_or t 0 0 == 120) ≡ false = ne_eqb (get_or t 0 0) 120 (λ e. c.if-first-eq120.false (c.first-first.ensures ∙ e)) in
    let opens = sym (opens_told r t c.first-first.result c.second-2.result c.first-first.ensures c.second-2.ensures) ∙ sym c.opens_unicode.ensures ∙ c.if-opens_unicode.true in
    let two = two_ones t c.bump-then-opens_unicode.ensures c.bump-then-opens_unicode-2.ensures in
    let n = run_len hex_or_underscore (drop 2 t) in
    let left : drop 1 (drop n (drop 2 t)) ≡ drop (3 + n) t = ap (λ (z : List ℕ). drop 1 z) (drop-drop n 2 t) ∙ drop-drop 1 (2 + n) t ∙ ap (λ (k : ℕ). drop k t) (let z : 2 + n + 1 ≡ 3 + n = omega arith in z) in
    unicode-passes r t c.eat_unicode.new.rest c.eat_unicode.result (escape-unicode r t simple x opens) (c.eat_unicode.ensures.told ∙ ap (λ (z : List ℕ). is_unicode r z) two)
    (λ e. c.eat_unicode.ensures.after e ∙ ap (λ (z : List ℕ). drop 1 (drop (run_len hex_or_underscore z) z)) two ∙ left)

pub returns : goal.returns
returns c =
    let r = c.args.rules in
    let t = c.args.rest.now in
    let simple : is_simple r (get_or t 0 0) ≡ false = ap (λ (n : ℕ). is_simple r n) (sym c.first-first.ensures) ∙ sym c.is_simple.ensures ∙ c.if-is_simple.false in
    let x : (get_or t 0 0 == 120) ≡ false = ne_eqb (get_or t 0 0) 120 (λ e. c.if-first-eq120.false (c.first-first.ensures ∙ e)) in
    let opens = sym (opens_told r t c.first-first.result c.second-2.result c.first-first.ensures c.second-2.ensures) ∙ sym c.opens_unicode.ensures ∙ c.if-opens_unicode.false in
    pass-none _ t t (escape-other r t simple x opens)
