-- Dedented texts, match by match.
use Rattle.std.proofs.Common.{◌≡◌, ℕ, zero, suc, ◌*◌, ◌<◌, ◌≤◌, List, [], ◌∷◌, ◌++◌, take, drop, length, replicate, Bool, true, false, ◌&&◌, cond, eqb, refl, ap, sym, ◌∙◌, subst, arith, inl, inr}
use Rattle.std.proofs.lemmas.Slice.Eq.{starts_is}
use Rattle.std.proofs.lemmas.Bool.Decides.{Decides-eqb}
use Rattle.std.specs.List.{starts_with}
use Rattle.std.specs.Str.Pattern.{LacksTextAt, FindsText}
use Rattle.std.specs.Str.Replace.{ReplacesMatches}
use Rattle.syntax_editor.specs.Indent.{spaces}
use Rattle.tree_indent.specs.Shifted.{set_out}

no-true : (b : Bool) → (b ≡ true → ⊥) → b ≡ false
no-true true h = absurd (h refl)
no-true false h = refl

pub and-parts : (a b : Bool) → (a && b) ≡ true → (a ≡ true) × (b ≡ true)
and-parts true b h = (refl, h)
and-parts false b h = absurd (cc)

pub front_is : (n : ℕ) (cs : List ℕ)
    → (starts_with eqb cs (spaces n) ≡ true → cs ≡ spaces n ++ drop (length (spaces n)) cs) × ((rest : List ℕ) → cs ≡ spaces n ++ rest → starts_with eqb cs (spaces n) ≡ true)
front_is n cs = starts_is Decides-eqb cs (spaces n) (starts_with eqb cs (spaces n)) refl

pub ten : (c : ℕ) → eqb c 10 ≡ true → c ≡ 10
ten c h = (Decides-eqb c 10).0 h

-- if no line feed is followed by the spaces, the character stays
abbrev is_margin : ℕ → ℕ → List ℕ → Bool
is_margin n c cs = eqb c 10 && starts_with eqb cs (spaces n)

no-margin : (n c : ℕ) (cs : List ℕ) → LacksTextAt (10 ∷ spaces n) (c ∷ cs) 0 → is_margin n c cs ≡ false
no-margin n c cs lacks =
    no-true (is_margin n c cs)
    (λ both.
    let parts = and-parts (eqb c 10) (starts_with eqb cs (spaces n)) both in
    lacks (drop (length (spaces n)) cs) (ap (λ (k : ℕ). k ∷ cs) (ten c parts.0) ∙ ap (λ l. 10 ∷ l) ((front_is n cs).0 parts.1)))

stays : (n c : ℕ) (cs : List ℕ) → LacksTextAt (10 ∷ spaces n) (c ∷ cs) 0 → set_out n (c ∷ cs) ≡ c ∷ set_out n cs
stays n c cs lacks = ap (λ b. c ∷ cond b (drop (n * 4) (set_out n cs)) (set_out n cs)) (no-margin n c cs lacks)

pub set_out-none : (n : ℕ) (s : List ℕ) → ((i : ℕ) → i ≤ length s → LacksTextAt (10 ∷ spaces n) s i) → set_out n s ≡ s
set_out-none n [] lacks = refl
set_out-none n (c ∷ cs) lacks =
    stays n c cs (lacks 0 (omega arith))
    ∙ ap (λ l. c ∷ l) (set_out-none n cs (λ i h. lacks (suc i) (omega (arith, h))))

spaces-stay : (n k : ℕ) (rest : List ℕ) → set_out n (replicate k 32 ++ rest) ≡ replicate k 32 ++ set_out n rest
spaces-stay n zero rest = refl
spaces-stay n (suc k) rest = ap (λ l. 32 ∷ l) (spaces-stay n k rest)

drop-spaces : (k : ℕ) (rest : List ℕ) → drop k (replicate k 32 ++ rest) ≡ rest
drop-spaces zero rest = refl
drop-spaces (suc k) rest = drop-spaces k rest

margin-goes : (n : ℕ) (rest : List ℕ) → set_out n (10 ∷ (spaces n ++ rest)) ≡ 10 ∷ set_out n rest
margin-goes n rest =
    ap (λ b. 10 ∷ cond b (drop (n * 4) (set_out n (spaces n ++ rest))) (set_out n (spaces n ++ rest))) ((front_is n (spaces n ++ rest)).1 rest refl)
    ∙ ap (λ l. 10 ∷ drop (n * 4) l) (spaces-stay n (n * 4) rest)
    ∙ ap (λ l. 10 ∷ l) (drop-spaces (n * 4) (set_out n rest))

pub set_out-some :
    (n a : ℕ) (s rest : List ℕ) → ((i : ℕ) → i < a → LacksTextAt (10 ∷ spaces n) s i) → drop a s ≡ 10 ∷ (spaces n ++ rest)
    → set_out n s ≡ take a s ++ 10 ∷ set_out n rest
set_out-some n zero s rest lacks at = ap (set_out n) at ∙ margin-goes n rest
set_out-some n (suc a) [] rest lacks at = absurd (cc)
set_out-some n (suc a) (c ∷ cs) rest lacks at =
    stays n c cs (lacks 0 (omega arith))
    ∙ ap (λ l. c ∷ l) (set_out-some n a cs rest (λ i h. lacks (suc i) (omega (arith, h))) at)

-- all matches, one after the other
pub set_out-replaced :
    {P : Type 0} (text : P → List ℕ) (n m : ℕ) (p : P) (s out : List ℕ) → text p ≡ 10 ∷ spaces n
    → ReplacesMatches (λ x t r. FindsText (text x) t r) (λ x y. text y ≡ text x) (10 ∷ []) m p s out → out ≡ set_out n s
set_out-replaced text n zero p s out is h =
    let none = subst (λ (needle : List ℕ). (i : ℕ) → i ≤ length s → LacksTextAt needle s i) is h.0 in
    h.1 ∙ sym (set_out-none n s none)
set_out-replaced text n (suc m) p s out is h =
    let a = h.0 in
    let b = h.1 in
    let lacks = subst (λ (needle : List ℕ). (i : ℕ) → i < a → LacksTextAt needle s i) is h.4.0 in
    let at : drop a s ≡ 10 ∷ (spaces n ++ drop b s) = h.4.1.split ∙ ap (λ (needle : List ℕ). needle ++ drop b s) is in
    let ends = h.4.1.ends in
    elim h.6 [
      | inl w ↦
          h.7
          ∙ ap (λ (r : List ℕ). take a s ++ 10 ∷ r) (set_out-replaced text n m h.2 (drop b s) h.3 (h.5 ∙ is) w.1)
          ∙ sym (set_out-some n a s (drop b s) lacks at)
      | inr w ↦ absurd (omega (arith, w.0, ends, ap (λ (l : List ℕ). length l) is))
    ]
