-- The units of encoded characters.
use Rattle.std.proofs.Common.{◌≡◌, ℕ, zero, suc, ◌+◌, ◌-◌, ◌*◌, ◌/◌, ◌%◌, ◌<◌, ◌≤◌, Bool, true, false, cond, nat_lt, List, [], ◌∷◌, ◌++◌, length, take, refl, ap, sym, ◌∙◌, arith, inl, inr, length-append}
use Rattle.std.specs.Prelude.{IsUtf8, encode_utf8, encode_utf8_all}
use Rattle.std.specs.List.{sum_by}
use Rattle.std.specs.Char.Escape.{encode_utf16}
use Rattle.std.proofs.Math.Utf8.{encode}
use Rattle.std.proofs.lemmas.Bool.{cases_lt, lt-ltb, le-ltb}
use Rattle.std.proofs.lemmas.List.Sums.{sum_by-cons}
use Rattle.std.proofs.lemmas.Bool.Decides.{nat_tests}
use Rattle.line_index.specs.declared.encoding.Encoding.{Encoding}
use Rattle.line_index.specs.declared.encoding.Encoding.TheVariants.{Utf8, Utf16, Utf32}
use Rattle.line_index.specs.Columns.{width, units}
use Rattle.line_index.specs.Laws.{char_units}
use Rattle.line_index.proofs.ColumnLemmas.{units-nil, units-cons}

pub units-append : (e : Encoding) (xs ys : List ℕ) → units e (xs ++ ys) ≡ units e xs + units e ys
units-append e [] ys = let z = units-nil e in omega arith
units-append e (b ∷ bs) ys =
    let r = units-append e bs ys in
    rw (units-cons e b (bs ++ ys), units-cons e b bs) (omega arith)

pub units-take : (e : Encoding) (n : ℕ) (bs : List ℕ) → units e (take n bs) ≤ units e bs
units-take e zero bs = let z = units-nil e in omega arith
units-take e (suc n) [] = omega arith
units-take e (suc n) (b ∷ bs) =
    let r = units-take e n bs in
    rw (units-cons e b (take n bs), units-cons e b bs) (omega arith)

-- widths by the class of the byte
width-ascii : (e : Encoding) (b : ℕ) → b < 128 → width e b ≡ 1
width-ascii Utf8 b h = refl
width-ascii Utf16 b h = grind (arith, nat_tests)
width-ascii Utf32 b h = grind (arith, nat_tests)

abbrev byte_units : Encoding → ℕ
byte_units Utf8 = 1
byte_units Utf16 = 0
byte_units Utf32 = 0

width-next : (e : Encoding) (b : ℕ) → 128 ≤ b → b < 192 → width e b ≡ byte_units e
width-next Utf8 b h k = refl
width-next Utf16 b h k = grind (arith, nat_tests)
width-next Utf32 b h k = grind (arith, nat_tests)

width-lead : (e : Encoding) (b : ℕ) → 192 ≤ b → b < 240 → width e b ≡ 1
width-lead Utf8 b h k = refl
width-lead Utf16 b h k = grind (arith, nat_tests)
width-lead Utf32 b h k = grind (arith, nat_tests)

abbrev long_units : Encoding → ℕ
long_units Utf8 = 1
long_units Utf16 = 2
long_units Utf32 = 1

width-long : (e : Encoding) (b : ℕ) → 240 ≤ b → width e b ≡ long_units e
width-long Utf8 b h = refl
width-long Utf16 b h = grind (arith, nat_tests)
width-long Utf32 b h = grind (arith, nat_tests)

units-one : (e : Encoding) (a : ℕ) → units e (a ∷ []) ≡ width e a
units-one e a = units-cons e a [] ∙ (let z = units-nil e in omega arith)

units-two : (e : Encoding) (a b : ℕ) → units e (a ∷ b ∷ []) ≡ width e a + width e b
units-two e a b = units-cons e a (b ∷ []) ∙ (let z = units-one e b in omega arith)

units-three : (e : Encoding) (a b c : ℕ) → units e (a ∷ b ∷ c ∷ []) ≡ width e a + width e b + width e c
units-three e a b c = units-cons e a (b ∷ c ∷ []) ∙ (let z = units-two e b c in omega arith)

units-four : (e : Encoding) (a b c d : ℕ) → units e (a ∷ b ∷ c ∷ d ∷ []) ≡ width e a + width e b + width e c + width e d
units-four e a b c d = units-cons e a (b ∷ c ∷ d ∷ []) ∙ (let z = units-three e b c d in omega arith)

-- the units of a character by the number of its bytes
abbrev sized : Encoding → ℕ → ℕ
sized Utf8 n = n
sized Utf16 n = cond (nat_lt n 4) 1 2
sized Utf32 n = 1

next-high : (e : Encoding) (n : ℕ) → width e (128 + n % 64) ≡ byte_units e
next-high e n = width-next e (128 + n % 64) (omega arith) (omega arith)

two : (e : Encoding) → 1 + byte_units e ≡ sized e 2
two Utf8 = refl
two Utf16 = refl
two Utf32 = refl

three : (e : Encoding) → 1 + byte_units e + byte_units e ≡ sized e 3
three Utf8 = refl
three Utf16 = refl
three Utf32 = refl

four : (e : Encoding) → long_units e + byte_units e + byte_units e + byte_units e ≡ sized e 4
four Utf8 = refl
four Utf16 = refl
four Utf32 = refl

one : (e : Encoding) → 1 ≡ sized e 1
one Utf8 = refl
one Utf16 = refl
one Utf32 = refl

-- of a character the bytes and the units
units-sized : (e : Encoding) (c : ℕ) → units e (encode c) ≡ sized e (length (encode c))
unfolding encode
units-sized e c =
    elim (cases_lt c 128) [
      | inl ascii ↦ rw (encode, lt-ltb c 128 ascii) (units-one e c ∙ width-ascii e c ascii ∙ one e)
      | inr h1 ↦
          elim (cases_lt c 2048) [
            | inl short ↦
                let a = width-lead e (192 + c / 64) (omega arith) (omega arith) in
                let n = next-high e c in
                let k = two e in
                rw (encode, le-ltb c 128 h1, lt-ltb c 2048 short) (units-two e (192 + c / 64) (128 + c % 64) ∙ omega arith)
            | inr h2 ↦
                elim (cases_lt c 65536) [
                  | inl plane ↦
                      let a = width-lead e (224 + c / 4096) (omega arith) (omega arith) in
                      let n = next-high e c in
                      let m = next-high e (c / 64) in
                      let k = three e in
                      rw (encode, le-ltb c 128 h1, le-ltb c 2048 h2, lt-ltb c 65536 plane)
                      (units-three e (224 + c / 4096) (128 + c / 64 % 64) (128 + c % 64) ∙ omega arith)
                  | inr h3 ↦
                      let a = width-long e (240 + c / 262144) (omega arith) in
                      let n = next-high e c in
                      let m = next-high e (c / 64) in
                      let o = next-high e (c / 4096) in
                      let k = four e in
                      rw (encode, le-ltb c 128 h1, le-ltb c 2048 h2, le-ltb c 65536 h3)
                      (units-four e (240 + c / 262144) (128 + c / 4096 % 64) (128 + c / 64 % 64) (128 + c % 64) ∙ omega arith)
                ]
          ]
    ]

-- the bytes of a character, and its units in UTF-16
encode-lengths : (c : ℕ) → (1 ≤ length (encode c)) × (cond (nat_lt (length (encode c)) 4) 1 2 ≡ length (encode_utf16 c))
unfolding encode
encode-lengths c =
    elim (cases_lt c 128) [
      | inl ascii ↦ rw (encode, lt-ltb c 128 ascii, lt-ltb c 65536 (omega arith)) (omega arith, refl)
      | inr h1 ↦
          elim (cases_lt c 2048) [
            | inl short ↦ rw (encode, le-ltb c 128 h1, lt-ltb c 2048 short, lt-ltb c 65536 (omega arith)) (omega arith, refl)
            | inr h2 ↦
                elim (cases_lt c 65536) [
                  | inl plane ↦ rw (encode, le-ltb c 128 h1, le-ltb c 2048 h2, lt-ltb c 65536 plane) (omega arith, refl)
                  | inr h3 ↦ rw (encode, le-ltb c 128 h1, le-ltb c 2048 h2, le-ltb c 65536 h3) (omega arith, refl)
                ]
          ]
    ]

pub units-char : (e : Encoding) (c : ℕ) → units e (encode c) ≡ char_units e c
units-char Utf8 c = units-sized Utf8 c
units-char Utf16 c = units-sized Utf16 c ∙ (encode-lengths c).1
units-char Utf32 c = units-sized Utf32 c

pub units-chars : (e : Encoding) (cs : List ℕ) → units e (encode_utf8_all cs) ≡ sum_by (λ c. char_units e c) cs
units-chars e [] = units-nil e
units-chars e (c ∷ cs) =
    let h = units-char e c in
    let r = units-chars e cs in
    units-append e (encode c) (encode_utf8_all cs) ∙ (let s = sum_by-cons (λ c'. char_units e c') c cs in omega arith)

char-bound : (e : Encoding) (c : ℕ) → units e (encode c) ≤ length (encode c)
char-bound Utf8 c = let h = units-sized Utf8 c in omega arith
char-bound Utf16 c = let h = units-sized Utf16 c in let l = (encode-lengths c).0 in grind (arith, nat_tests)
char-bound Utf32 c = let h = units-sized Utf32 c in let l = (encode-lengths c).0 in omega arith

chars-bound : (e : Encoding) (cs : List ℕ) → units e (encode_utf8_all cs) ≤ length (encode_utf8_all cs)
chars-bound e [] = let z = units-nil e in omega arith
chars-bound e (c ∷ cs) =
    let h = char-bound e c in
    let r = chars-bound e cs in
    let s = units-append e (encode c) (encode_utf8_all cs) in
    simp length-append (omega arith)

-- a text has no more units than bytes
pub units-bound : (e : Encoding) (bs : List ℕ) → IsUtf8 bs → units e bs ≤ length bs
units-bound e bs u = rw (← u.1.1) (chars-bound e u.0)
