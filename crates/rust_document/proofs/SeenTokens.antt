-- Tokens of a text's leaves, without whitespace and comments.
use Rattle.std.proofs.Common.{◌≡◌, ℕ, zero, suc, ◌+◌, ◌≤◌, Bool, true, false, ◌==◌, List, [], ◌∷◌, length, take, drop, refl, sym, ap, ◌∙◌, arith, inl, inr, if◌then◌else◌}
use Rattle.std.specs.List.{prefix_len}
use Rattle.std.proofs.lemmas.Bool.{cases_Bool, eqb-true, or_cases}
use Rattle.parser_input.specs.Kinds.{FLOAT_NUMBER, WHITESPACE, COMMENT}
use Rattle.parser_input.specs.Leaf.{Leaf, is_trivia}
use Rattle.parser_input.specs.Input.{Token, input, token_of}
use Rattle.parser_input.specs.declared.edition.Edition.{Edition}
use Rattle.parser_events.specs.Trivia.{pending}
use Rattle.parser_events.specs.Dress.{reach}
use Rattle.rust_document.specs.Shape.{has_dot, dots}

-- Leaves that are no trivia, each with its token and, of a float, whether it holds a dot. The tokens say whether the whole language is
-- read.
pub record Seen : Type 0 where
  pub token : Token
  pub dot : Bool

unfoldable pub dot_of : Leaf → Bool
dot_of l = if l.kind == FLOAT_NUMBER then has_dot l.text else false

unfoldable pub seen : (w : Bool) → Edition → List Leaf → List Seen
seen w e [] = []
seen w e (l ∷ ls) = let rest = seen w e ls in if is_trivia l then rest else record { token = token_of w e l ls; dot = dot_of l } ∷ rest

unfoldable pub tokens : List Seen → List Token
tokens [] = []
tokens (s ∷ ss) = s.token ∷ tokens ss

-- the tokens with their dots, from the input and the dots
unfoldable pub together : List Token → List Bool → List Seen
together [] bs = []
together (t ∷ ts) [] = record { token = t; dot = false } ∷ together ts []
together (t ∷ ts) (b ∷ bs) =
    let float = record { token = t; dot = b } ∷ together ts bs in
    let other = record { token = t; dot = false } ∷ together ts (b ∷ bs) in
    if t.kind == FLOAT_NUMBER then float else other

no-float : (l : Leaf) → is_trivia l ≡ true → (l.kind == FLOAT_NUMBER) ≡ false
unfolding is_trivia
no-float l e = elim (or_cases (l.kind == WHITESPACE) (l.kind == COMMENT) e) [
  | inl i ↦ ap (λ (k : ℕ). k == FLOAT_NUMBER) (eqb-true l.kind WHITESPACE i)
  | inr i ↦ ap (λ (k : ℕ). k == FLOAT_NUMBER) (eqb-true l.kind COMMENT i)
]

pub token-kind : (w : Bool) (e : Edition) (l : Leaf) (ls : List Leaf) → (token_of w e l ls).kind ≡ l.kind
unfolding token_of
token-kind w e l ls = refl

without : (t : Token) (ts : List Token) (bs : List Bool) → (t.kind == FLOAT_NUMBER) ≡ false → together (t ∷ ts) bs ≡ record { token = t; dot = false } ∷ together ts bs
unfolding together
without t ts [] e = refl
without t ts (b ∷ bs) e = rw e refl

with-dot : (t : Token) (ts : List Token) (b : Bool) (bs : List Bool) → (t.kind == FLOAT_NUMBER) ≡ true → together (t ∷ ts) (b ∷ bs) ≡ record { token = t; dot = b } ∷ together ts bs
unfolding together
with-dot t ts b bs e = rw e refl

pub seen-together : (w : Bool) (e : Edition) (ls : List Leaf) → seen w e ls ≡ together (input w e ls) (dots ls)
unfolding seen input dots dot_of together
seen-together w e [] = refl
seen-together w e (l ∷ ls) = elim (cases_Bool (is_trivia l)) [
  | inl i ↦ rw (i, no-float l i) (seen-together w e ls)
  | inr i ↦ elim (cases_Bool (l.kind == FLOAT_NUMBER)) [
    | inl j ↦ rw (i, j) (ap (λ (ss : List Seen). record { token = token_of w e l ls; dot = has_dot l.text } ∷ ss) (seen-together w e ls) ∙ sym (with-dot (token_of w e l ls) (input w e ls) (has_dot l.text) (dots ls) (ap (λ (k : ℕ). k == FLOAT_NUMBER) (token-kind w e l ls) ∙ j)))
    | inr j ↦ rw (i, j) (ap (λ (ss : List Seen). record { token = token_of w e l ls; dot = false } ∷ ss) (seen-together w e ls) ∙ sym (without (token_of w e l ls) (input w e ls) (dots ls) (ap (λ (k : ℕ). k == FLOAT_NUMBER) (token-kind w e l ls) ∙ j)))
  ]
]

pub tokens-seen : (w : Bool) (e : Edition) (ls : List Leaf) → tokens (seen w e ls) ≡ input w e ls
unfolding seen input tokens
tokens-seen w e [] = refl
tokens-seen w e (l ∷ ls) = elim (cases_Bool (is_trivia l)) [
  | inl i ↦ rw i (tokens-seen w e ls)
  | inr i ↦ rw i (ap (λ (ts : List Token). token_of w e l ls ∷ ts) (tokens-seen w e ls))
]

pub tokens-drop : (n : ℕ) (ss : List Seen) → tokens (drop n ss) ≡ drop n (tokens ss)
unfolding tokens
tokens-drop zero ss = refl
tokens-drop (suc n) [] = refl
tokens-drop (suc n) (s ∷ ss) = tokens-drop n ss

drop-one : (n : ℕ) (l : Leaf) (ls : List Leaf) → drop (1 + n) (l ∷ ls) ≡ drop n ls
drop-one n l ls = ap (λ (m : ℕ). drop m (l ∷ ls)) (let same : 1 + n ≡ suc n = omega arith in same)

pub pending-more : (l : Leaf) (ls : List Leaf) → is_trivia l ≡ true → pending (l ∷ ls) ≡ l ∷ pending ls
unfolding pending
pending-more l ls i = rw i (ap (λ (m : ℕ). take m (l ∷ ls)) (let same : 1 + prefix_len is_trivia ls ≡ suc (prefix_len is_trivia ls) = omega arith in same))

pending-no-more : (l : Leaf) (ls : List Leaf) → is_trivia l ≡ false → pending (l ∷ ls) ≡ []
unfolding pending
pending-no-more l ls i = rw i refl

-- What is left after the next tokens, and after whitespace and comments.
pub seen-reach : (w : Bool) (e : Edition) (n : ℕ) (ls : List Leaf) → seen w e (drop (reach n ls) ls) ≡ drop n (seen w e ls)
unfolding seen reach
seen-reach w e zero ls = refl
seen-reach w e (suc n) [] = refl
seen-reach w e (suc n) (l ∷ ls) = elim (cases_Bool (is_trivia l)) [
  | inl i ↦ rw i (ap (seen w e) (drop-one (reach (suc n) ls) l ls) ∙ seen-reach w e (suc n) ls)
  | inr i ↦ rw i (ap (seen w e) (drop-one (reach n ls) l ls) ∙ seen-reach w e n ls)
]

-- one pending leaf fewer after a first leaf that is trivia
pub one-less : (l : Leaf) (ls : List Leaf) (c : ℕ) → is_trivia l ≡ true → suc c ≤ length (pending (l ∷ ls)) → c ≤ length (pending ls)
one-less l ls c i le = omega (arith, le, ap (λ (ms : List Leaf). length ms) (pending-more l ls i))

pub none-pending : (l : Leaf) (ls : List Leaf) (c : ℕ) → is_trivia l ≡ false → suc c ≤ length (pending (l ∷ ls)) → ⊥
none-pending l ls c i le = omega (arith, le, ap (λ (ms : List Leaf). length ms) (pending-no-more l ls i))

pub seen-over : (w : Bool) (e : Edition) (c : ℕ) (ls : List Leaf) → c ≤ length (pending ls) → seen w e (drop c ls) ≡ seen w e ls
unfolding seen
seen-over w e zero ls le = refl
seen-over w e (suc c) [] le = refl
seen-over w e (suc c) (l ∷ ls) le = elim (cases_Bool (is_trivia l)) [
  | inl i ↦ rw i (seen-over w e c ls (one-less l ls c i le))
  | inr i ↦ absurd (none-pending l ls c i le)
]

no-pending : (c : ℕ) → suc c ≤ length (pending []) → ⊥
unfolding pending
no-pending c le = omega (arith, le)

pub one-more : (l : Leaf) (ls : List Leaf) → is_trivia l ≡ true → length (pending (l ∷ ls)) ≡ length (pending ls) + 1
one-more l ls i = omega (arith, ap (λ (ms : List Leaf). length ms) (pending-more l ls i))

pub pending-over : (c : ℕ) (ls : List Leaf) → c ≤ length (pending ls) → length (pending (drop c ls)) + c ≡ length (pending ls)
pending-over zero ls le = omega arith
pending-over (suc c) [] le = absurd (no-pending c le)
pending-over (suc c) (l ∷ ls) le = elim (cases_Bool (is_trivia l)) [
  | inl i ↦ let more = pending-over c ls (one-less l ls c i le) in let all = one-more l ls i in omega (arith, more, all)
  | inr i ↦ absurd (none-pending l ls c i le)
]
