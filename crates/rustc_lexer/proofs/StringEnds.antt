-- A string closes at its first quote with an even run of `\` before it.
use Rattle.std.proofs.Common.{◌≡◌, ℕ, suc, ◌+◌, ◌<◌, ◌≤◌, Bool, true, false, not, ◌&&◌, ◌==◌, List, [], ◌∷◌, length, drop, get_or, refl, sym, ◌∙◌, ap, subst, arith, inl, inr, if◌then◌else◌, eqb-true, eq-eqb, length-drop}
use Rattle.std.specs.Bool.{MatchBool}
use Rattle.std.proofs.lemmas.List.{get_or-drop, drop-drop}
use Rattle.rustc_lexer.specs.Characters.{double_quote, backslash}
use Rattle.rustc_lexer.specs.Scan.{Taken, past, quoted}
use Rattle.rustc_lexer.specs.Endings.{backslashes_before, is_even, ClosesAt}
use Rattle.rustc_lexer.proofs.Agree.{lt_or_ge}
use Rattle.rustc_lexer.proofs.Booleans.{bool_cases, and_left, and_right, not_not}
use Rattle.rustc_lexer.proofs.Steps.{quoted-true, quoted-false}

-- what the rest of a string that begins at place n says
abbrev Ends : (text : List ℕ) (n : ℕ) (r : Taken Bool) → Type 0
Ends text n r =
    MatchBool r.value ((k : ℕ) × (n + r.taken ≡ suc k) × ClosesAt text k × ((j : ℕ) → n ≤ j → j < k → ClosesAt text j → ⊥)) ((n + r.taken ≡ length text) × ((j : ℕ) → n ≤ j → ClosesAt text j → ⊥))

-- the parity goes on by one character
pub parity : (text : List ℕ) (n c : ℕ) (odd : Bool) → get_or text n 0 ≡ c → not (is_even (backslashes_before n text)) ≡ odd → not (is_even (backslashes_before (suc n) text)) ≡ ((c == backslash) && not odd)
parity text n c odd at run =
    elim (bool_cases (c == backslash)) [
      | inl h ↦
          let here : (get_or text n 0 == backslash) ≡ true = ap (λ z. z == backslash) at ∙ h in
          ap (λ t. not (is_even (if t then suc (backslashes_before n text) else 0))) here ∙ ap not run ∙ sym (ap (λ t. t && not odd) h)
      | inr h ↦
          let here : (get_or text n 0 == backslash) ≡ false = ap (λ z. z == backslash) at ∙ h in
          ap (λ t. not (is_even (if t then suc (backslashes_before n text) else 0))) here ∙ sym (ap (λ t. t && not odd) h)
    ]

pub at_place : (text : List ℕ) (n c : ℕ) (cs : List ℕ) → drop n text ≡ c ∷ cs → get_or text n 0 ≡ c
at_place text n c cs e =
    ap (λ k. get_or text k 0) (let z : n ≡ n + 0 = omega arith in z) ∙ sym (get_or-drop n text 0 0) ∙ ap (λ z. get_or z 0 0) e

pub after_place : (text : List ℕ) (n c : ℕ) (cs : List ℕ) → drop n text ≡ c ∷ cs → drop (suc n) text ≡ cs
after_place text n c cs e =
    ap (λ k. drop k text) (let z : suc n ≡ n + 1 = omega arith in z) ∙ sym (drop-drop 1 n text) ∙ ap (λ z. drop 1 z) e

-- from one place further on
wider_cases : (text : List ℕ) (n : ℕ) (v : Bool) (taken : ℕ) → (ClosesAt text n → ⊥) → Ends text (suc n) (record { value = v; taken = taken }) → Ends text n (record { value = v; taken = suc taken })
wider_cases text n true taken other ih = (
  ih.0,
  (let same = ih.1 in omega arith),
  ih.2,
  λ j low high closes. elim (lt_or_ge n j) [
    | inl l ↦ ih.3 j l high closes
    | inr g ↦ let same : j ≡ n = omega arith in other (subst (λ k. ClosesAt text k) same closes)
  ],
)
wider_cases text n false taken other ih = (
  (let same = ih.0 in omega arith),
  λ j low closes. elim (lt_or_ge n j) [
    | inl l ↦ ih.1 j l closes
    | inr g ↦ let same : j ≡ n = omega arith in other (subst (λ k. ClosesAt text k) same closes)
  ],
)

wider : (text : List ℕ) (n : ℕ) (r : Taken Bool) → (ClosesAt text n → ⊥) → Ends text (suc n) r → Ends text n (past r)
wider text n r other ih = wider_cases text n r.value r.taken other ih

-- a position that is skipped does not close the string
not_here : (text : List ℕ) (n c : ℕ) (odd : Bool) → get_or text n 0 ≡ c → not (is_even (backslashes_before n text)) ≡ odd → ((c == double_quote) && not odd) ≡ false → ClosesAt text n → ⊥
not_here text n c odd at run h closes =
    let quote : (c == double_quote) ≡ true = eq-eqb c double_quote (sym at ∙ closes.quote) in
    let even : not odd ≡ true = ap not (sym run) ∙ not_not (is_even (backslashes_before n text)) ∙ closes.even in
    let w : true ≡ false = sym (ap (λ t. t && not odd) quote ∙ even) ∙ h in
    let v : ⊥ = cc in v

ends : (text : List ℕ) (n : ℕ) (rest : List ℕ) (odd : Bool) → drop n text ≡ rest → n ≤ length text → not (is_even (backslashes_before n text)) ≡ odd → Ends text n (quoted odd rest)
unfolding quoted
ends text n [] odd e within run =
    let all : length text ≡ n = let l = length-drop n text in let m = ap length e in omega arith in
    (let z : n + 0 ≡ length text = omega arith in z, λ j h closes. let inside = closes.inside in absurd (omega arith))
ends text n (c ∷ cs) odd e within run =
    let at = at_place text n c cs e in
    let more : n < length text = let l = length-drop n text in let m = ap length e in omega arith in
    elim (bool_cases ((c == double_quote) && not odd)) [
      | inl h ↦
          let q = quoted-true odd c cs h in
          subst (λ r. Ends text n r) (sym q)
          (n, (let z : n + 1 ≡ suc n = omega arith in z), record { inside = more; quote = at ∙ eqb-true c double_quote (and_left (c == double_quote) (not odd) h); even = sym (not_not (is_even (backslashes_before n text))) ∙ ap not run ∙ and_right (c == double_quote) (not odd) h }, λ j low high closes. absurd (omega arith))
      | inr h ↦
          let next = (c == backslash) && not odd in
          let ih = ends text (suc n) cs next (after_place text n c cs e) (omega arith) (parity text n c odd at run) in
          subst (λ r. Ends text n r) (sym (quoted-false odd c cs h)) (wider text n (quoted next cs) (not_here text n c odd at run h) ih)
    ]

start_cases : (text : List ℕ) (v : Bool) (taken : ℕ) → Ends text 0 (record { value = v; taken = taken }) → MatchBool v ((k : ℕ) × (taken ≡ suc k) × ClosesAt text k × ((j : ℕ) → j < k → ClosesAt text j → ⊥)) ((taken ≡ length text) × ((j : ℕ) → ClosesAt text j → ⊥))
start_cases text true taken e = (e.0, (let same = e.1 in omega arith), e.2, λ j high closes. e.3 j (omega arith) high closes)
start_cases text false taken e = ((let same = e.0 in omega arith), λ j closes. e.1 j (omega arith) closes)

from_start : (text : List ℕ) (r : Taken Bool) → Ends text 0 r → MatchBool r.value ((k : ℕ) × (r.taken ≡ suc k) × ClosesAt text k × ((j : ℕ) → j < k → ClosesAt text j → ⊥)) ((r.taken ≡ length text) × ((j : ℕ) → ClosesAt text j → ⊥))
from_start text r e = start_cases text r.value r.taken e

pub strings-close : (text : List ℕ) → MatchBool (quoted false text).value ((k : ℕ) × ((quoted false text).taken ≡ suc k) × ClosesAt text k × ((j : ℕ) → j < k → ClosesAt text j → ⊥)) (((quoted false text).taken ≡ length text) × ((j : ℕ) → ClosesAt text j → ⊥))
strings-close text = from_start text (quoted false text) (ends text 0 text false refl (omega arith) refl)
