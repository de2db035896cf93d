-- Escapes, as the code reads them.
use Rattle.std.proofs.Common.{◌≡◌, ℕ, zero, suc, pred, ◌+◌, ◌*◌, ◌<◌, ◌≤◌, Bool, true, false, not, ◌||◌, ◌==◌, ◌⊎◌, inl, inr, List, [], ◌∷◌, length, take, drop, get_or, length-drop, Option, Some, None, refl, sym, subst, ◌∙◌, ap, arith, option_map, if◌then◌else◌}
use Rattle.std.specs.Prelude.{leb, IsTrue, ◌↔◌}
use Rattle.std.specs.List.{filter}
use Rattle.std.proofs.lemmas.Bool.{le-leb, lt-leb, ne_eqb}
use Rattle.std.proofs.lemmas.Bool.Decides.{nat_tests}
use Rattle.rustc_lexer.specs.Characters.{underscore, is_digit, is_hex_digit}
use Rattle.rustc_lexer.specs.Scan.{run_len}
use Rattle.rustc_lexer.proofs.Booleans.{bool_cases}
use Rattle.rustc_lexer.proofs.Steps.{run-true, run-false}
use Rattle.parser_input.specs.Escapes.{Passes, digits_of, escape, fits_byte, fits_unicode, hex_digit, hex_or_underscore, hex_value, is_byte, is_one, is_simple, is_sound, is_unicode, nul_allowed, opens_unicode, unit}
use Rattle.parser_input.specs.declared.escapes.Rules.{Rules}

-- the three ranges of hexadecimal digits
pub hex-ranges : (c : ℕ) → is_hex_digit c ≡ true → ((48 ≤ c) × (c ≤ 57)) ⊎ (((65 ≤ c) × (c ≤ 70)) ⊎ ((97 ≤ c) × (c ≤ 102)))
unfolding is_hex_digit is_digit
hex-ranges c h = grind (arith, nat_tests)

pub byte-first : (rules : Rules) (a b : ℕ) → is_hex_digit a ≡ false → false ≡ is_byte rules a b
unfolding is_byte
byte-first rules a b h = sym (rw h refl)

pub byte-second : (rules : Rules) (a b : ℕ) → is_hex_digit a ≡ true → is_hex_digit b ≡ false → false ≡ is_byte rules a b
unfolding is_byte
byte-second rules a b h g = sym (rw (h, g) refl)

pub byte-both : (rules : Rules) (a b : ℕ) → is_hex_digit a ≡ true → is_hex_digit b ≡ true → fits_byte rules (16 * hex_digit a + hex_digit b) ≡ is_byte rules a b
unfolding is_byte
byte-both rules a b h g = sym (rw (h, g) refl)

or_false : (a b : Bool) → b ≡ false → (a || b) ≡ true → a ≡ true
or_false true b g h = refl
or_false false b g h = sym g ∙ h

-- a digit or `_` that is no `_` is a digit
pub hex-then : (c : ℕ) → (c == underscore) ≡ false → hex_or_underscore c ≡ true → is_hex_digit c ≡ true
unfolding hex_or_underscore
hex-then c other h = or_false (is_hex_digit c) (c == underscore) other h

pub digits-underscore : (text : List ℕ) → hex_or_underscore (get_or text 0 0) ≡ true → (get_or text 0 0 == underscore) ≡ true → digits_of (drop 1 text) ≡ digits_of text
digits-underscore [] h under = absurd (cc)
digits-underscore (c ∷ cs) h under =
    let more = run-true hex_or_underscore c cs h in
    let rest = digits_of cs in
    sym (ap (λ (n : ℕ). filter (λ d. not (d == underscore)) (take n (c ∷ cs))) more ∙ ap (λ (b : Bool). if not b then c ∷ rest else rest) under)

pub digits-digit : (text : List ℕ) → hex_or_underscore (get_or text 0 0) ≡ true → (get_or text 0 0 == underscore) ≡ false → digits_of text ≡ get_or text 0 0 ∷ digits_of (drop 1 text)
unfolding hex_or_underscore is_hex_digit is_digit
digits-digit [] h other = absurd (cc)
digits-digit (c ∷ cs) h other =
    let more = run-true hex_or_underscore c cs h in
    let rest = digits_of cs in
    ap (λ (n : ℕ). filter (λ d. not (d == underscore)) (take n (c ∷ cs))) more ∙ ap (λ (b : Bool). if not b then c ∷ rest else rest) other

pub digits-stop : (text : List ℕ) → hex_or_underscore (get_or text 0 0) ≡ false → digits_of text ≡ []
unfolding run_len
digits-stop [] h = refl
digits-stop (c ∷ cs) h = ap (λ (n : ℕ). filter (λ d. not (d == underscore)) (take n (c ∷ cs))) (run-false hex_or_underscore c cs h)

pub hex_zero : hex_or_underscore 0 ≡ false
unfolding hex_or_underscore is_hex_digit is_digit
hex_zero = refl

-- the bound on the value of `count` digits
abbrev pub Small : ℕ → ℕ → Type 0
Small count value =
    (count ≤ 0 → value < 1) × (count ≤ 1 → value < 16) × (count ≤ 2 → value < 256) × (count ≤ 3 → value < 4096) × (count ≤ 4 → value < 65536) × (count ≤ 5 → value < 1048576)

pub small-none : Small 0 0
small-none = (λ h. omega arith, λ h. omega arith, λ h. omega arith, λ h. omega arith, λ h. omega arith, λ h. omega arith)

pub small-more : (count value digit : ℕ) → Small count value → digit < 16 → Small (count + 1) (16 * value + digit)
small-more count value digit s d = (
  λ h. absurd (omega arith),
  λ h. let b = s.0 (omega arith) in omega arith,
  λ h. let b = s.1 (omega arith) in omega arith,
  λ h. let b = s.2 (omega arith) in omega arith,
  λ h. let b = s.3 (omega arith) in omega arith,
  λ h. let b = s.4 (omega arith) in omega arith,
)

-- Unicode escapes.

pub unicode-digit : (rules : Rules) (t : List ℕ) → is_hex_digit (get_or t 0 0) ≡ false → false ≡ is_unicode rules t
unfolding is_unicode
unicode-digit rules t h = sym (rw h refl)

pub unicode-many : (rules : Rules) (t : List ℕ) → is_hex_digit (get_or t 0 0) ≡ true → 6 < length (digits_of t) → false ≡ is_unicode rules t
unfolding is_unicode
unicode-many rules t h many = let m : leb (length (digits_of t)) 6 ≡ false = lt-leb (length (digits_of t)) 6 many in sym (rw (h, m) refl)

pub unicode-open : (rules : Rules) (t : List ℕ) → is_hex_digit (get_or t 0 0) ≡ true → length (digits_of t) ≤ 6 → (get_or t (run_len hex_or_underscore t) 0 == 125) ≡ false → false ≡ is_unicode rules t
unfolding is_unicode
unicode-open rules t h few brace = let m : leb (length (digits_of t)) 6 ≡ true = le-leb (length (digits_of t)) 6 few in sym (rw (h, m, brace) refl)

pub unicode-closed : (rules : Rules) (t : List ℕ) → is_hex_digit (get_or t 0 0) ≡ true → length (digits_of t) ≤ 6 → (get_or t (run_len hex_or_underscore t) 0 == 125) ≡ true → fits_unicode rules (hex_value 0 (digits_of t)) ≡ is_unicode rules t
unfolding is_unicode
unicode-closed rules t h few brace = let m : leb (length (digits_of t)) 6 ≡ true = le-leb (length (digits_of t)) 6 few in sym (rw (h, m, brace) refl)

-- Escapes.

pub pass-some : (o : Option ℕ) (old new : List ℕ) (n : ℕ) → o ≡ Some n → new ≡ drop n old → Passes o old true new
pass-some o old new n e h = let P : Option ℕ → Type 0 = λ p. Passes p old true new in subst P (sym e) (refl, h)

pub pass-none : (o : Option ℕ) (old new : List ℕ) → o ≡ None → Passes o old false new
pass-none o old new e = let P : Option ℕ → Type 0 = λ p. Passes p old false new in subst P (sym e) refl

pub passes-false : (o : Option ℕ) (old new : List ℕ) → Passes o old false new → o ≡ None
passes-false None old new h = refl
passes-false (Some n) old new h = let z : false ≡ true = h.0 in absurd (cc)

pub passes-true : (o : Option ℕ) (old new : List ℕ) → Passes o old true new → (n : ℕ) × (o ≡ Some n) × (new ≡ drop n old)
passes-true None old new h = let z : true ≡ false = h in absurd (cc)
passes-true (Some n) old new h = (n, refl, h.1)

pub escape-simple : (rules : Rules) (t : List ℕ) → is_simple rules (get_or t 0 0) ≡ true → escape rules t ≡ Some 1
unfolding escape
escape-simple rules t h = rw h refl

pub escape-byte : (rules : Rules) (t : List ℕ) → is_simple rules (get_or t 0 0) ≡ false → (get_or t 0 0 == 120) ≡ true → is_byte rules (get_or t 1 0) (get_or t 2 0) ≡ true → escape rules t ≡ Some 3
unfolding escape
escape-byte rules t h x b = rw (h, x, b) refl

pub escape-no-byte : (rules : Rules) (t : List ℕ) → is_simple rules (get_or t 0 0) ≡ false → (get_or t 0 0 == 120) ≡ true → is_byte rules (get_or t 1 0) (get_or t 2 0) ≡ false → escape rules t ≡ None
unfolding escape
escape-no-byte rules t h x b = rw (h, x, b) refl

pub escape-other : (rules : Rules) (t : List ℕ) → is_simple rules (get_or t 0 0) ≡ false → (get_or t 0 0 == 120) ≡ false → opens_unicode rules (get_or t 0 0) (get_or t 1 0) ≡ false → escape rules t ≡ None
unfolding escape
escape-other rules t h x u = let z : escape rules t ≡ (if opens_unicode rules (get_or t 0 0) (get_or t 1 0) then (if is_unicode rules (drop 2 t) then Some (3 + run_len hex_or_underscore (drop 2 t)) else None) else None) = rw (h, x) refl in z ∙ ap (λ (b : Bool). if b then (if is_unicode rules (drop 2 t) then Some (3 + run_len hex_or_underscore (drop 2 t)) else None) else None) u

pub escape-unicode : (rules : Rules) (t : List ℕ) → is_simple rules (get_or t 0 0) ≡ false → (get_or t 0 0 == 120) ≡ false → opens_unicode rules (get_or t 0 0) (get_or t 1 0) ≡ true → escape rules t ≡ (if is_unicode rules (drop 2 t) then Some (3 + run_len hex_or_underscore (drop 2 t)) else None)
unfolding escape
escape-unicode rules t h x u = let z : escape rules t ≡ (if opens_unicode rules (get_or t 0 0) (get_or t 1 0) then (if is_unicode rules (drop 2 t) then Some (3 + run_len hex_or_underscore (drop 2 t)) else None) else None) = rw (h, x) refl in z ∙ ap (λ (b : Bool). if b then (if is_unicode rules (drop 2 t) then Some (3 + run_len hex_or_underscore (drop 2 t)) else None) else None) u

pub unicode-passes : (rules : Rules) (t new : List ℕ) (r : Bool) → escape rules t ≡ (if is_unicode rules (drop 2 t) then Some (3 + run_len hex_or_underscore (drop 2 t)) else None) → r ≡ is_unicode rules (drop 2 t) → (r ≡ true → new ≡ drop (3 + run_len hex_or_underscore (drop 2 t)) t) → Passes (escape rules t) t r new
unicode-passes rules t new true e told after =
    pass-some (escape rules t) t new (3 + run_len hex_or_underscore (drop 2 t)) (e ∙ ap (λ (b : Bool). if b then Some (3 + run_len hex_or_underscore (drop 2 t)) else None) (sym told)) (after refl)
unicode-passes rules t new false e told after =
    pass-none (escape rules t) t new (e ∙ ap (λ (b : Bool). if b then Some (3 + run_len hex_or_underscore (drop 2 t)) else None) (sym told))

-- Units.

pub unit-none : (rules : Rules) (t new : List ℕ) → t ≡ [] → Passes (unit rules t) t false new
unfolding unit
unit-none rules [] new e = refl
unit-none rules (c ∷ cs) new e = absurd (cc)

more-passes : (o : Option ℕ) (c : ℕ) (cs new : List ℕ) (r : Bool) → Passes o cs r new → Passes (option_map (λ n. suc n) o) (c ∷ cs) r new
more-passes None c cs new r h = h
more-passes (Some n) c cs new r h = h

pub unit-escape : (rules : Rules) (t after new : List ℕ) (r : Bool) → (t ≡ [] → ⊥) → (get_or t 0 0 == 92) ≡ true → after ≡ drop 1 t → Passes (escape rules after) after r new → Passes (unit rules t) t r new
unfolding unit
unit-escape rules [] after new r some back is p = absurd (some refl)
unit-escape rules (c ∷ cs) after new r some back is p =
    let e : unit rules (c ∷ cs) ≡ option_map (λ n. suc n) (escape rules cs) = rw (back, unit) refl in
    let P : List ℕ → Type 0 = λ b. Passes (escape rules b) b r new in
    let Q : Option ℕ → Type 0 = λ o. Passes o (c ∷ cs) r new in
    subst Q (sym e) (more-passes (escape rules cs) c cs new r (subst P is p))

plain-passes : (r : Bool) (t new : List ℕ) → new ≡ drop 1 t → Passes (if r then Some 1 else None) t r new
plain-passes true t new e = (refl, e)
plain-passes false t new e = refl

pub unit-plain : (rules : Rules) (t new : List ℕ) (r : Bool) → (t ≡ [] → ⊥) → (get_or t 0 0 == 92) ≡ false → r ≡ nul_allowed rules (get_or t 0 0) → new ≡ drop 1 t → Passes (unit rules t) t r new
unfolding unit
unit-plain rules [] new r some back told is = absurd (some refl)
unit-plain rules (c ∷ cs) new r some back told is =
    let e : unit rules (c ∷ cs) ≡ (if nul_allowed rules c then Some 1 else None) = rw (back, unit) refl in
    let Q : Option ℕ → Type 0 = λ o. Passes o (c ∷ cs) r new in
    subst Q (sym (e ∙ ap (λ (b : Bool). if b then Some 1 else None) (sym told))) (plain-passes r (c ∷ cs) new is)

mapped-takes : (o : Option ℕ) (n : ℕ) → option_map (λ k. suc k) o ≡ Some n → 1 ≤ n
mapped-takes None n e = absurd (cc)
mapped-takes (Some k) n e = let z : suc k ≡ n = cc in omega arith

plain-takes : (b : Bool) (n : ℕ) → (if b then Some 1 else None) ≡ Some n → 1 ≤ n
plain-takes true n e = let z : 1 ≡ n = cc in omega arith
plain-takes false n e = absurd (cc)

unit-takes : (rules : Rules) (t : List ℕ) (n : ℕ) → unit rules t ≡ Some n → 1 ≤ n
unfolding unit
unit-takes rules [] n e = absurd (cc)
unit-takes rules (c ∷ cs) n e =
    elim (bool_cases (c == 92)) [
      | inl back ↦ let u : unit rules (c ∷ cs) ≡ option_map (λ k. suc k) (escape rules cs) = rw (back, unit) refl in mapped-takes (escape rules cs) n (sym u ∙ e)
      | inr plain ↦ let u : unit rules (c ∷ cs) ≡ (if nul_allowed rules c then Some 1 else None) = rw (plain, unit) refl in plain-takes (nul_allowed rules c) n (sym u ∙ e)
    ]

-- Whole texts.

held-after : (rules : Rules) (n : ℕ) (t : List ℕ) → is_sound rules n t ≡ is_sound rules 0 (drop n t)
unfolding is_sound
held-after rules zero t = refl
held-after rules (suc n) [] = refl
held-after rules (suc n) (c ∷ cs) = held-after rules n cs

pub sound-none : (rules : Rules) (t new : List ℕ) → (t ≡ [] → ⊥) → Passes (unit rules t) t false new → false ≡ is_sound rules 0 t
unfolding is_sound
sound-none rules [] new some p = absurd (some refl)
sound-none rules (c ∷ cs) new some p = sym (rw (passes-false (unit rules (c ∷ cs)) (c ∷ cs) new p, is_sound) refl)

after-unit : (rules : Rules) (n c : ℕ) (cs : List ℕ) → 1 ≤ n → is_sound rules (pred n) cs ≡ is_sound rules 0 (drop n (c ∷ cs))
after-unit rules zero c cs h = absurd (omega arith)
after-unit rules (suc n) c cs h = held-after rules n cs

sound-at : (rules : Rules) (n c : ℕ) (cs : List ℕ) → unit rules (c ∷ cs) ≡ Some n → is_sound rules 0 (c ∷ cs) ≡ is_sound rules (pred n) cs
unfolding is_sound
sound-at rules n c cs u = rw (u, is_sound) refl

pub sound-some : (rules : Rules) (t new : List ℕ) → (t ≡ [] → ⊥) → Passes (unit rules t) t true new → is_sound rules 0 new ≡ is_sound rules 0 t
unfolding is_sound
sound-some rules [] new some p = absurd (some refl)
sound-some rules (c ∷ cs) new some p =
    let u = passes-true (unit rules (c ∷ cs)) (c ∷ cs) new p in
    let e = sound-at rules u.0 c cs u.1 in
    ap (λ (x : List ℕ). is_sound rules 0 x) u.2 ∙ sym (after-unit rules u.0 c cs (unit-takes rules (c ∷ cs) u.0 u.1)) ∙ sym e

pub sound-end : (rules : Rules) (t : List ℕ) → t ≡ [] → true ≡ is_sound rules 0 t
unfolding is_sound
sound-end rules [] e = refl
sound-end rules (c ∷ cs) e = absurd (cc)

pub unit-shorter : (rules : Rules) (t new : List ℕ) → (t ≡ [] → ⊥) → Passes (unit rules t) t true new → length new < length t
unit-shorter rules [] new some p = absurd (some refl)
unit-shorter rules (c ∷ cs) new some p =
    let u = passes-true (unit rules (c ∷ cs)) (c ∷ cs) new p in
    omega (arith, ap (λ (x : List ℕ). length x) u.2, length-drop u.0 (c ∷ cs), unit-takes rules (c ∷ cs) u.0 u.1)

pub one-none : (rules : Rules) (t new : List ℕ) → Passes (unit rules t) t false new → false ≡ is_one rules t
unfolding is_one
one-none rules t new p = sym (rw (passes-false (unit rules t) t new p, is_one) refl)

empty-told : (b : Bool) (xs : List ℕ) → IsTrue b ↔ (xs ≡ []) → b ≡ (length xs == 0)
empty-told true [] h = refl
empty-told true (x ∷ xs) h = let z : x ∷ xs ≡ [] = h.0 refl in absurd (cc)
empty-told false [] h = h.1 refl
empty-told false (x ∷ xs) h = sym (ne_eqb (length (x ∷ xs)) 0 (λ e. absurd (omega arith)))

one-at : (rules : Rules) (t : List ℕ) (n : ℕ) → unit rules t ≡ Some n → is_one rules t ≡ (length (drop n t) == 0)
unfolding is_one
one-at rules t n u = rw (u, is_one) refl

pub one-some : (rules : Rules) (t new : List ℕ) (b : Bool) → Passes (unit rules t) t true new → IsTrue b ↔ (new ≡ []) → b ≡ is_one rules t
unfolding is_one
one-some rules t new b p h =
    let u = passes-true (unit rules t) t new p in
    let e = one-at rules t u.0 u.1 in
    empty-told b new h ∙ ap (λ (x : List ℕ). length x == 0) u.2 ∙ sym e
