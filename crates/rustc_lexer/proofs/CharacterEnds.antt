-- A character ends at the first place where it may.
use Rattle.std.proofs.Common.{◌≡◌, ℕ, zero, suc, ◌+◌, ◌<◌, ◌≤◌, Bool, true, false, not, ◌&&◌, ◌||◌, ◌==◌, List, [], ◌∷◌, length, take, drop, get_or, refl, sym, ◌∙◌, ap, subst, arith, inl, inr, if◌then◌else◌, length-drop}
use Rattle.std.proofs.lemmas.List.{get_or-drop}
use Rattle.rustc_lexer.specs.Characters.{backslash, tick}
use Rattle.rustc_lexer.specs.Scan.{Taken, give, skip, peek, look, ◌▸◌, past, closing, unclosed, stops_character, ticked}
use Rattle.rustc_lexer.specs.Endings.{backslashes_before, is_even, EndsCharacterAt, FirstEnd}
use Rattle.rustc_lexer.specs.Lexeme.{is_single, character_end}
use Rattle.rustc_lexer.proofs.Booleans.{bool_cases, not_not, and_false}
use Rattle.rustc_lexer.proofs.Reading.{picks-then, picks-else}
use Rattle.rustc_lexer.proofs.StringEnds.{parity, at_place, after_place}
use Rattle.rustc_lexer.proofs.Steps.{ticked-closes, ticked-stops, ticked-goes}

-- what the first end says of the rest of a character, by how far it is
abbrev end_at : Bool → ℕ → Taken Bool
end_at b d = if b then closing (suc d) else unclosed d

past-end : (b : Bool) (d : ℕ) → past (end_at b d) ≡ end_at b (suc d)
past-end true d = refl
past-end false d = refl

and_true : (b : Bool) → (b && true) ≡ b
and_true true = refl
and_true false = refl

or_right : (a b : Bool) → a ≡ false → (a || b) ≡ true → b ≡ true
or_right true b f h = let w : true ≡ false = f in cc
or_right false b f h = h

or_left : (a b : Bool) → a ≡ true → (a || b) ≡ true
or_left true b h = refl
or_left false b h = let w : false ≡ true = h in cc

or_both : (a b : Bool) → b ≡ true → (a || b) ≡ true
or_both true b h = refl
or_both false b h = h

next-place : (text : List ℕ) (n c : ℕ) (cs : List ℕ) → drop n text ≡ c ∷ cs → get_or text (suc n) 0 ≡ get_or cs 0 0
next-place text n c cs e =
    ap (λ k. get_or text k 0) (let z : suc n ≡ n + 1 = omega arith in z) ∙ sym (get_or-drop n text 1 0) ∙ ap (λ z. get_or z 1 0) e

-- the run of `\` before a place goes on as the scan does
goes-on : (text : List ℕ) (n c : ℕ) → get_or text n 0 ≡ c → not (is_even (backslashes_before n text)) ≡ false → not (is_even (backslashes_before (suc n) text)) ≡ (c == backslash)
goes-on text n c at run = parity text n c false at run ∙ and_true (c == backslash)

goes-past : (text : List ℕ) (n c : ℕ) → get_or text n 0 ≡ c → not (is_even (backslashes_before n text)) ≡ true → not (is_even (backslashes_before (suc n) text)) ≡ false
goes-past text n c at run = parity text n c true at run ∙ and_false (c == backslash)

ends-here : (text : List ℕ) (n c : ℕ) (cs : List ℕ) → drop n text ≡ c ∷ cs → n < length text → not (is_even (backslashes_before n text)) ≡ false → (c == tick || stops_character c (peek 0 cs)) ≡ true → EndsCharacterAt text n
ends-here text n c cs e within run m = record {
  inside = within;
  mark = ap (λ z. z == tick || stops_character z (get_or text (suc n) 0)) (at_place text n c cs e) ∙ ap (λ z. c == tick || stops_character c z) (next-place text n c cs e) ∙ m;
  even = sym (not_not (is_even (backslashes_before n text))) ∙ ap not run;
}

more-left : (text : List ℕ) (n c : ℕ) (cs : List ℕ) → drop n text ≡ c ∷ cs → n < length text
more-left text n c cs e = let l = length-drop n text in let m = ap length e in omega arith

none-left : (text : List ℕ) (n k : ℕ) → drop n text ≡ [] → n ≤ k → k < length text → ⊥
none-left text n k e low high = let l = length-drop n text in let m = ap length e in absurd (omega arith)

-- a position that does not end the character is skipped
steps-on : (text : List ℕ) (n c : ℕ) (cs : List ℕ) → drop n text ≡ c ∷ cs → not (is_even (backslashes_before n text)) ≡ false → (EndsCharacterAt text n → ⊥) → ticked false (c ∷ cs) ≡ past (ticked (c == backslash) cs)
steps-on text n c cs e run none =
    elim (bool_cases (c == tick)) [
      | inl t ↦ absurd (none (ends-here text n c cs e (more-left text n c cs e) run (or_left (c == tick) _ t)))
      | inr t ↦
          elim (bool_cases (stops_character c (peek 0 cs))) [
            | inl s ↦ absurd (none (ends-here text n c cs e (more-left text n c cs e) run (or_both (c == tick) _ s)))
            | inr s ↦ ticked-goes c cs t s
          ]
    ]

-- the place that ends it
stops-here : (text : List ℕ) (n c : ℕ) (cs : List ℕ) → drop n text ≡ c ∷ cs → EndsCharacterAt text n → ticked false (c ∷ cs) ≡ end_at (get_or text n 0 == tick) 0
stops-here text n c cs e end =
    let at = at_place text n c cs e in
    let m : (c == tick || stops_character c (peek 0 cs)) ≡ true =
    sym (ap (λ z. z == tick || stops_character z (get_or text (suc n) 0)) at ∙ ap (λ z. c == tick || stops_character c z) (next-place text n c cs e)) ∙ end.mark in
    elim (bool_cases (c == tick)) [
      | inl t ↦ ticked-closes c cs t ∙ sym (picks-then (get_or text n 0 == tick) (closing 1) (unclosed 0) (ap (λ z. z == tick) at ∙ t))
      | inr t ↦
          ticked-stops c cs t (or_right (c == tick) _ t m) ∙ sym (picks-else (get_or text n 0 == tick) (closing 1) (unclosed 0) (ap (λ z. z == tick) at ∙ t))
    ]

first-end : (text : List ℕ) (n d k : ℕ) (rest : List ℕ) (escaped : Bool) → k ≡ n + d → drop n text ≡ rest → not (is_even (backslashes_before n text)) ≡ escaped → EndsCharacterAt text k → ((j : ℕ) → n ≤ j → j < k → EndsCharacterAt text j → ⊥) → ticked escaped rest ≡ end_at (get_or text k 0 == tick) d
unfolding ticked
first-end text n d k [] escaped far e run end none = absurd (none-left text n k e (omega arith) end.inside)
first-end text n zero k (c ∷ cs) true far e run end none =
    let same : k ≡ n = omega arith in
    let even : not (is_even (backslashes_before n text)) ≡ false =
    ap (λ z. not (is_even (backslashes_before z text))) (sym same) ∙ ap not end.even in
    let w : true ≡ false = sym run ∙ even in
    cc
first-end text n zero k (c ∷ cs) false far e run end none =
    let same : k ≡ n = omega arith in
    stops-here text n c cs e (subst (λ z. EndsCharacterAt text z) same end) ∙ ap (λ z. end_at (get_or text z 0 == tick) 0) (sym same)
first-end text n (suc d) k (c ∷ cs) true far e run end none =
    ap past (first-end text (suc n) d k cs false (omega arith) (after_place text n c cs e) (goes-past text n c (at_place text n c cs e) run) end (λ j low high p. none j (omega arith) high p))
    ∙ past-end (get_or text k 0 == tick) d
first-end text n (suc d) k (c ∷ cs) false far e run end none =
    steps-on text n c cs e run (λ p. none n (omega arith) (omega arith) p)
    ∙ ap past (first-end text (suc n) d k cs (c == backslash) (omega arith) (after_place text n c cs e) (goes-on text n c (at_place text n c cs e) run) end (λ j low high p. none j (omega arith) high p))
    ∙ past-end (get_or text k 0 == tick) d

stays-open : (text : List ℕ) (n : ℕ) (rest : List ℕ) (escaped : Bool) → drop n text ≡ rest → not (is_even (backslashes_before n text)) ≡ escaped → ((j : ℕ) → EndsCharacterAt text j → ⊥) → ticked escaped rest ≡ unclosed (length rest)
unfolding ticked
stays-open text n [] escaped e run none = refl
stays-open text n (c ∷ cs) true e run none =
    ap past (stays-open text (suc n) cs false (after_place text n c cs e) (goes-past text n c (at_place text n c cs e) run) none)
stays-open text n (c ∷ cs) false e run none =
    steps-on text n c cs e run (none n)
    ∙ ap past (stays-open text (suc n) cs (c == backslash) (after_place text n c cs e) (goes-on text n c (at_place text n c cs e) run) none)

abbrev choice : Bool → List ℕ → Taken Bool
choice b text =
    let r = (if b then (skip 2 ▸ λ _. give true) else ticked false) text in record { value = r.value; taken = 0 + r.taken }

-- a character whose second character does not close it
not-single : (text : List ℕ) → is_single (peek 0 text) (peek 1 text) ≡ false → character_end text ≡ ticked false text
unfolding character_end ◌▸◌ look
not-single text other =
    let r = ticked false text in
    let taken : 0 + r.taken ≡ r.taken = omega arith in
    let H : ℕ → Taken Bool = λ n. record { value = r.value; taken = n } in
    ap (λ b. choice b text) other ∙ ap H taken

two-there : (text : List ℕ) → is_single (peek 0 text) (peek 1 text) ≡ true → length (take 2 text) ≡ 2
two-there [] h = let w : false ≡ true = h in cc
two-there (a ∷ []) h = let w : false ≡ true = h in cc
two-there (a ∷ b ∷ cs) h = refl

pub one-closes : (text : List ℕ) → is_single (peek 0 text) (peek 1 text) ≡ true → character_end text ≡ closing 2
unfolding character_end ◌▸◌ look skip give
one-closes text h =
    let n : 0 + (length (take 2 text) + 0) ≡ 2 = let two = two-there text h in omega arith in
    ap (λ b. choice b text) h ∙ ap closing n

pub characters-end : (text : List ℕ) (k : ℕ) → is_single (peek 0 text) (peek 1 text) ≡ false → FirstEnd text k → character_end text ≡ end_at (get_or text k 0 == tick) k
characters-end text k other first =
    not-single text other ∙ first-end text 0 k k text false (let z : k ≡ 0 + k = omega arith in z) refl refl first.here (λ j low high p. first.none_before j high p)

pub characters-open : (text : List ℕ) → is_single (peek 0 text) (peek 1 text) ≡ false → ((k : ℕ) → EndsCharacterAt text k → ⊥) → character_end text ≡ unclosed (length text)
characters-open text other none = not-single text other ∙ stays-open text 0 text false refl refl none
