-- Keywords are ASCII, so a text's bytes are spelled as a keyword is exactly where its characters are.
use Rattle.std.proofs.Common.{◌≡◌, ℕ, zero, suc, Bool, true, false, List, [], ◌∷◌, nat_lt, find, refl, sym, ◌∙◌, ap, arith, chars, Option, Some, None, option_and_then, if◌then◌else◌, inl, inr}
use Rattle.std.specs.List.{list_all}
use Rattle.std.specs.Str.{bytes_eq, IsUtf8, IsAscii}
use Rattle.std.proofs.Math.Utf8.{encodes}
use Rattle.std.proofs.lemmas.Bool.{cases_Bool, and_parts, ltb-true}
use Rattle.std.proofs.lemmas.Slice.Eq.{bytes_eq-Decides}
use Rattle.std.proofs.lemmas.Str.{encodes-IsAscii, chars-IsAscii, encodes-chars}
use Rattle.parser_input.specs.Keywords.{Word, words, word_of, contextual_kind, keyword_kind, is_contextual_in, is_keyword_in}
use Rattle.std.specs.Option.{unwrap_or}
use Rattle.parser_input.specs.Kinds.{UNDERSCORE, IDENT}
use Rattle.parser_input.specs.Leaf.{word_kind}
use Rattle.parser_input.specs.declared.edition.Edition.{Edition}

abbrev is_ascii : List ℕ → Bool
is_ascii = list_all (λ c. nat_lt c 128)

to_ascii : (w : List ℕ) → is_ascii w ≡ true → IsAscii w
to_ascii [] h k = omega arith
to_ascii (c ∷ cs) h zero = ltb-true c 128 (and_parts (nat_lt c 128) (is_ascii cs) h).0
to_ascii (c ∷ cs) h (suc k) = to_ascii cs (and_parts (nat_lt c 128) (is_ascii cs) h).1 k

spelled-same : (w bs : List ℕ) → is_ascii w ≡ true → IsUtf8 bs → bytes_eq w bs ≡ bytes_eq w (chars bs)
spelled-same w bs h u =
    let plain : IsAscii w = to_ascii w h in
    elim (cases_Bool (bytes_eq w (chars bs))) [
      | inl t ↦
          let same : w ≡ chars bs = (bytes_eq-Decides w (chars bs)).0 t in
          let here : w ≡ bs = sym (encodes-IsAscii w plain) ∙ ap (λ (x : List ℕ). encodes x) same ∙ encodes-chars bs u in
          (bytes_eq-Decides w bs).1 here ∙ sym t
      | inr f ↦ elim (cases_Bool (bytes_eq w bs)) [
        | inl t ↦
            let same : w ≡ bs = (bytes_eq-Decides w bs).0 t in
            let here : w ≡ chars bs = sym (chars-IsAscii w plain) ∙ ap (λ (x : List ℕ). chars x) same in
            let wrong : false ≡ true = sym f ∙ (bytes_eq-Decides w (chars bs)).1 here in
            absurd (let z : false ≡ true = wrong in cc)
        | inr g ↦ g ∙ sym f
      ]
    ]

abbrev each_ascii : List Word → Bool
each_ascii = list_all (λ w. is_ascii w.text)

found-same : (ws : List Word) (bs : List ℕ) → each_ascii ws ≡ true → IsUtf8 bs → find (λ w. bytes_eq w.text bs) ws ≡ find (λ w. bytes_eq w.text (chars bs)) ws
found-same [] bs h u = refl
found-same (w ∷ ws) bs h u =
    let parts = and_parts (is_ascii w.text) (each_ascii ws) h in
    rw (spelled-same w.text bs parts.0 u, found-same ws bs parts.1 u) refl

words-ascii : each_ascii words ≡ true
unfolding words
words-ascii = refl

pub keyword-bytes : (edition : Edition) (bs : List ℕ) → IsUtf8 bs → keyword_kind edition bs ≡ keyword_kind edition (chars bs)
unfolding word_of
keyword-bytes edition bs u =
    ap (λ (o : Option Word). option_and_then (λ (w : Word). if is_keyword_in edition w then Some w.kind else None) o) (found-same words bs words-ascii u)

pub contextual-bytes : (edition : Edition) (bs : List ℕ) → IsUtf8 bs → contextual_kind edition bs ≡ contextual_kind edition (chars bs)
unfolding word_of
contextual-bytes edition bs u =
    ap (λ (o : Option Word). option_and_then (λ (w : Word). if is_contextual_in edition w then Some w.kind else None) o) (found-same words bs words-ascii u)

flipped : (xs ys : List ℕ) → bytes_eq xs ys ≡ bytes_eq ys xs
flipped xs ys = elim (cases_Bool (bytes_eq xs ys)) [
  | inl t ↦ t ∙ sym ((bytes_eq-Decides ys xs).1 (sym ((bytes_eq-Decides xs ys).0 t)))
  | inr f ↦ elim (cases_Bool (bytes_eq ys xs)) [
    | inl t ↦
        let wrong : false ≡ true = sym f ∙ (bytes_eq-Decides xs ys).1 (sym ((bytes_eq-Decides ys xs).0 t)) in
        absurd (let z : false ≡ true = wrong in cc)
    | inr g ↦ f ∙ sym g
  ]
]

pub underscore-bytes : (bs : List ℕ) → IsUtf8 bs → bytes_eq bs (95 ∷ []) ≡ bytes_eq (chars bs) (95 ∷ [])
underscore-bytes bs u = flipped bs (95 ∷ []) ∙ spelled-same (95 ∷ []) bs refl u ∙ flipped (95 ∷ []) (chars bs)

-- the kind of a word by its bytes
pub word-underscore : (edition : Edition) (bs : List ℕ) → IsUtf8 bs → true ≡ bytes_eq bs (95 ∷ []) → UNDERSCORE ≡ word_kind edition (chars bs)
unfolding word_kind
word-underscore edition bs u e =
    let same : bytes_eq (chars bs) (95 ∷ []) ≡ true = sym (underscore-bytes bs u) ∙ sym e in
    rw same refl

pub word-other : (edition : Edition) (bs : List ℕ) → IsUtf8 bs → false ≡ bytes_eq bs (95 ∷ []) → (o : Option ℕ) → o ≡ keyword_kind edition bs → unwrap_or o IDENT ≡ word_kind edition (chars bs)
unfolding word_kind
word-other edition bs u e o f =
    let same : bytes_eq (chars bs) (95 ∷ []) ≡ false = sym (underscore-bytes bs u) ∙ sym e in
    rw same (ap (λ (p : Option ℕ). unwrap_or p IDENT) (f ∙ keyword-bytes edition bs u))
