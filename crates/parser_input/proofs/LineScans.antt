-- What the scans for whitespace at the ends of a text find.
use Rattle.std.proofs.Common.{◌≡◌, ◌∙◌, ℕ, zero, suc, ◌≤◌, ◌⊎◌, inl, inr, Bool, true, false, not, ◌==◌, List, [], ◌∷◌, ◌++◌, length, take, drop, refl, sym, ap, subst, arith}
use Rattle.std.proofs.lemmas.List.Elements.{All-cons, All-nil}
use Rattle.rustc_lexer.specs.Characters.{line_feed, is_whitespace}
use Rattle.rustc_lexer.proofs.Booleans.{bool_cases}
use Rattle.parser_input.specs.Lines.{one_more, blank_len, solid_len}
use Rattle.parser_input.specs.LineScans.{AreSpaces, BlankLines, EndsIn, IsEmptyOrEndsIn, SolidPart}

-- one more character, where the scan of the others found some, or none
scan-long : (sort : ℕ → Bool) (c n : ℕ) (cs : List ℕ) → n ≤ length cs → one_more (sort c) n ≤ length (c ∷ cs)
unfolding one_more
scan-long sort c (suc n) cs h = omega (arith, h)
scan-long sort c zero cs h = elim (bool_cases (sort c)) [ inl e ↦ rw e (omega arith) | inr e ↦ rw e (omega arith) ]

ends-more : (sort : ℕ → Bool) (c : ℕ) (cs : List ℕ) → EndsIn sort cs → EndsIn sort (c ∷ cs)
ends-more sort c cs e = record { init = c ∷ e.init; last = e.last; text_is = ap (λ (t : List ℕ). c ∷ t) e.text_is; last_is = e.last_is }

ends-one : (sort : ℕ → Bool) (c : ℕ) → sort c ≡ true → EndsIn sort (c ∷ [])
ends-one sort c e = record { init = []; last = c; text_is = refl; last_is = e }

-- a front with characters, which ends so, goes on doing so with one more before it
ends-front : (sort : ℕ → Bool) (c n : ℕ) (cs : List ℕ) → suc n ≤ length cs → IsEmptyOrEndsIn sort (take (suc n) cs) → EndsIn sort (c ∷ take (suc n) cs)
ends-front sort c n [] h e = absurd (omega (arith, h))
ends-front sort c n (d ∷ ds) h (inl e) = absurd (cc)
ends-front sort c n (d ∷ ds) h (inr e) = ends-more sort c (take (suc n) (d ∷ ds)) e

scan-ends : (sort : ℕ → Bool) (c n : ℕ) (cs : List ℕ) → n ≤ length cs → IsEmptyOrEndsIn sort (take n cs) → IsEmptyOrEndsIn sort (take (one_more (sort c) n) (c ∷ cs))
unfolding one_more
scan-ends sort c (suc n) cs h e = inr (ends-front sort c n cs h e)
scan-ends sort c zero cs h e = elim (bool_cases (sort c)) [ inl is ↦ rw is (inr (ends-one sort c is)) | inr is ↦ rw is (inl refl) ]

-- Blank lines.

scan-spaces : (wanted : Bool) (c n : ℕ) (cs : List ℕ) → is_whitespace c ≡ true → AreSpaces (take n cs) → AreSpaces (take (one_more wanted n) (c ∷ cs))
unfolding one_more
scan-spaces wanted c (suc n) cs white h = All-cons (λ c. is_whitespace c ≡ true) c (take (suc n) cs) white h
scan-spaces true c zero cs white h = All-cons (λ c. is_whitespace c ≡ true) c [] white (All-nil (λ c. is_whitespace c ≡ true))
scan-spaces false c zero cs white h = All-nil (λ c. is_whitespace c ≡ true)

abbrev is_feed : ℕ → Bool
is_feed c = c == line_feed

abbrev is_solid : ℕ → Bool
is_solid c = not (is_whitespace c)

blank-white : (c : ℕ) (cs : List ℕ) → is_whitespace c ≡ true → blank_len (c ∷ cs) ≡ one_more (is_feed c) (blank_len cs)
unfolding blank_len
blank-white c cs white = rw (white, blank_len) refl

blank-other : (c : ℕ) (cs : List ℕ) → is_whitespace c ≡ false → blank_len (c ∷ cs) ≡ 0
unfolding blank_len
blank-other c cs other = rw (other, blank_len) refl

blank-within : (text : List ℕ) → blank_len text ≤ length text
unfolding blank_len
blank-within [] = omega arith
blank-within (c ∷ cs) = elim (bool_cases (is_whitespace c)) [
  | inl white ↦ subst (λ (n : ℕ). n ≤ length (c ∷ cs)) (sym (blank-white c cs white)) (scan-long is_feed c (blank_len cs) cs (blank-within cs))
  | inr other ↦ subst (λ (n : ℕ). n ≤ length (c ∷ cs)) (sym (blank-other c cs other)) (omega arith)
]

blank-spaces : (text : List ℕ) → AreSpaces (take (blank_len text) text)
unfolding blank_len
blank-spaces [] = All-nil (λ c. is_whitespace c ≡ true)
blank-spaces (c ∷ cs) = elim (bool_cases (is_whitespace c)) [
  | inl white ↦
      subst (λ (n : ℕ). AreSpaces (take n (c ∷ cs))) (sym (blank-white c cs white)) (scan-spaces (is_feed c) c (blank_len cs) cs white (blank-spaces cs))
  | inr other ↦ subst (λ (n : ℕ). AreSpaces (take n (c ∷ cs))) (sym (blank-other c cs other)) (All-nil (λ c. is_whitespace c ≡ true))
]

blank-ends : (text : List ℕ) → IsEmptyOrEndsIn is_feed (take (blank_len text) text)
unfolding blank_len
blank-ends [] = inl refl
blank-ends (c ∷ cs) = elim (bool_cases (is_whitespace c)) [
  | inl white ↦
      subst (λ (n : ℕ). IsEmptyOrEndsIn is_feed (take n (c ∷ cs))) (sym (blank-white c cs white))
      (scan-ends is_feed c (blank_len cs) cs (blank-within cs) (blank-ends cs))
  | inr other ↦ subst (λ (n : ℕ). IsEmptyOrEndsIn is_feed (take n (c ∷ cs))) (sym (blank-other c cs other)) (inl refl)
]

-- a text that ends so is one character, or goes on ending so without its first
ends-less : (sort : ℕ → Bool) (c : ℕ) (cs : List ℕ) → EndsIn sort (c ∷ cs) → ((cs ≡ []) × (sort c ≡ true)) ⊎ EndsIn sort cs
ends-less sort c cs e = of e.init e.text_is
  where
    of : (init : List ℕ) → c ∷ cs ≡ init ++ e.last ∷ [] → ((cs ≡ []) × (sort c ≡ true)) ⊎ EndsIn sort cs
    of [] is = let first : c ≡ e.last = cc in let rest : cs ≡ [] = cc in inl (rest, ap sort first ∙ e.last_is)
    of (d ∷ ds) is = let rest : cs ≡ ds ++ e.last ∷ [] = cc in inr record { init = ds; last = e.last; text_is = rest; last_is = e.last_is }

ends-some : (sort : ℕ → Bool) (cs : List ℕ) → EndsIn sort cs → 1 ≤ length cs
ends-some sort [] e = of e.init e.text_is
  where
    of : (init : List ℕ) → [] ≡ init ++ e.last ∷ [] → 1 ≤ 0
    of [] is = absurd (cc)
    of (d ∷ ds) is = absurd (cc)
ends-some sort (c ∷ cs) e = omega arith

one-more-long : (wanted : Bool) (n k : ℕ) → k ≤ n → 1 ≤ k → suc k ≤ one_more wanted n
unfolding one_more
one-more-long wanted zero k h some = absurd (omega (arith, h, some))
one-more-long wanted (suc n) k h some = omega (arith, h)

one-more-here : (n : ℕ) → 1 ≤ one_more true n
unfolding one_more
one-more-here zero = omega arith
one-more-here (suc n) = omega arith

blank-longest : (front rest : List ℕ) → AreSpaces front → IsEmptyOrEndsIn is_feed front → length front ≤ blank_len (front ++ rest)
blank-longest [] rest spaces ends = omega arith
blank-longest (c ∷ cs) rest spaces (inl e) = absurd (cc)
blank-longest (c ∷ cs) rest spaces (inr e) =
    let white : is_whitespace c ≡ true = spaces 0 c (omega arith) in
    let here = blank-white c (cs ++ rest) white in
    elim (ends-less is_feed c cs e) [
      | inl one ↦
          let long : 1 ≤ one_more (is_feed c) (blank_len (cs ++ rest)) = subst (λ (w : Bool). 1 ≤ one_more w (blank_len (cs ++ rest))) (sym one.1) (one-more-here (blank_len (cs ++ rest))) in
          let short : length cs ≡ 0 = ap (λ (l : List ℕ). length l) one.0 in
          omega (arith, long, short, here)
      | inr more ↦
          let later = blank-longest cs rest (λ k d j. spaces (suc k) d (omega (arith, j))) (inr more) in
          let long = one-more-long (is_feed c) (blank_len (cs ++ rest)) (length cs) later (ends-some is_feed cs more) in
          omega (arith, long, here)
    ]

pub blank-lines : (text : List ℕ) → BlankLines text
blank-lines text = record {
  within = blank-within text;
  blank = (blank-spaces text, blank-ends text);
  longest = λ front rest is lines. subst (λ (t : List ℕ). length front ≤ blank_len t) (sym is) (blank-longest front rest lines.0 lines.1);
}

-- The part before the whitespace at the end.

solid-within : (text : List ℕ) → solid_len text ≤ length text
unfolding solid_len
solid-within [] = omega arith
solid-within (c ∷ cs) = scan-long is_solid c (solid_len cs) cs (solid-within cs)

solid-ends : (text : List ℕ) → IsEmptyOrEndsIn is_solid (take (solid_len text) text)
unfolding solid_len
solid-ends [] = inl refl
solid-ends (c ∷ cs) = scan-ends is_solid c (solid_len cs) cs (solid-within cs) (solid-ends cs)

scan-left : (c n : ℕ) (cs : List ℕ) → AreSpaces (drop n cs) → AreSpaces (drop (one_more (is_solid c) n) (c ∷ cs))
unfolding one_more
scan-left c (suc n) cs h = h
scan-left c zero cs h = elim (bool_cases (is_whitespace c)) [
  | inl white ↦ rw white (All-cons (λ c. is_whitespace c ≡ true) c cs white h)
  | inr other ↦ rw other h
]

solid-spaces : (text : List ℕ) → AreSpaces (drop (solid_len text) text)
unfolding solid_len
solid-spaces [] = All-nil (λ c. is_whitespace c ≡ true)
solid-spaces (c ∷ cs) = scan-left c (solid_len cs) cs (solid-spaces cs)

pub solid-part : (text : List ℕ) → SolidPart text
solid-part text = record { within = solid-within text; solid = solid-ends text; spaces = solid-spaces text }
