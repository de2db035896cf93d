-- What a production gives is what its rule gives: the bounds by which `meaning` recurs make no difference.
use Rattle.std.proofs.Common.{◌≡◌, ℕ, zero, suc, ◌<◌, ◌≤◌, Bool, length, nat_le, nat_lt, refl, ap, ◌∙◌, arith, inl, inr}
use Rattle.std.proofs.lemmas.Bool.{ltb-true, leb-true, cases_Bool}
use mathlib.Core.Path.{fun_ext}
use Rattle.rust_grammar.specs.Rule.{Production}
use Rattle.rust_grammar.specs.Meaning.{Reading, Calls, Table, read, look_of, follow, by_rank, by_length, meaning, calls}

-- two ways of calling that agree
same_calls : {f h : Calls} → ((x : Production) (c : Bool) (s : Reading) → f x c s ≡ h x c s) → f ≡ h
same_calls e = fun_ext λ x. fun_ext λ c. fun_ext λ s. e x c s

-- what follows a production's calls, in three cases
follow_cases : (f1 f2 l1 l2 : Calls) (r n : ℕ) (ranks : Production → ℕ) (x : Production) (c : Bool) (s : Reading) →
    (length s.rest < n → f1 x c s ≡ f2 x c s) →
    (length s.rest ≤ n → ranks x < r → l1 x c s ≡ l2 x c s) →
    follow f1 l1 r n ranks x c s ≡ follow f2 l2 r n ranks x c s
unfolding follow
follow_cases f1 f2 l1 l2 r n ranks x c s there here = elim (cases_Bool (nat_lt (length s.rest) n)) [
  | inl t ↦ rw t (there (ltb-true _ _ t))
  | inr t ↦ rw t (elim (cases_Bool (nat_le (length s.rest) n)) [
    | inl u ↦ rw u (elim (cases_Bool (nat_lt (ranks x) r)) [
      | inl v ↦ rw v (here (leb-true _ _ u) (ltb-true _ _ v))
      | inr v ↦ rw v refl
    ])
    | inr u ↦ rw u refl
  ])
]

-- Enough rank: more changes nothing.
more_rank : (g : Table) (f : Calls) (k m : ℕ) (x : Production) (c : Bool) (s : Reading) → g.rank x < k → g.rank x < m → by_rank g f k x c s ≡ by_rank g f m x c s
unfolding by_rank
more_rank g f zero m x c s p q = absurd (omega arith)
more_rank g f (suc k) zero x c s p q = absurd (omega arith)
more_rank g f (suc k) (suc m) x c s p q =
    ap (λ (h : Calls). read (look_of g) h c (g.rule x) s) (same_calls λ y d t.
    follow_cases f f (by_rank g f k) (by_rank g f m) (g.rank x) (length s.rest) g.rank y d t (λ i. refl)
    (λ i j. more_rank g f k m y d t (omega arith) (omega arith)))

-- What is given for fewer tokens decides.
same_fewer : (g : Table) (f h : Calls) (k n : ℕ) (x : Production) (c : Bool) (s : Reading) → length s.rest ≤ n →
    ((y : Production) (d : Bool) (t : Reading) → length t.rest < n → f y d t ≡ h y d t) →
    by_rank g f k x c s ≡ by_rank g h k x c s
unfolding by_rank
same_fewer g f h zero n x c s le e = refl
same_fewer g f h (suc k) n x c s le e =
    ap (λ (j : Calls). read (look_of g) j c (g.rule x) s) (same_calls λ y d t.
    follow_cases f h (by_rank g f k) (by_rank g h k) (g.rank x) (length s.rest) g.rank y d t
    (λ i. e y d t (omega arith))
    (λ i j. same_fewer g f h k n y d t (omega arith) e))

-- Enough length: more changes nothing.
more_length : (g : Table) (n m : ℕ) (x : Production) (c : Bool) (s : Reading) → length s.rest ≤ n → length s.rest ≤ m → by_length g n x c s ≡ by_length g m x c s
unfolding by_length
more_length g zero zero x c s p q = refl
more_length g zero (suc m) x c s p q = same_fewer g _ _ g.ranks 0 x c s p (λ y d t i. absurd (omega arith))
more_length g (suc n) zero x c s p q = same_fewer g _ _ g.ranks 0 x c s q (λ y d t i. absurd (omega arith))
more_length g (suc n) (suc m) x c s p q = same_fewer g _ _ g.ranks (length s.rest) x c s (omega arith)
    (λ y d t i. more_length g n m y d t (omega arith) (omega arith))

-- from any number of tokens that is enough
enough : (g : Table) (n : ℕ) (x : Production) (c : Bool) (s : Reading) → length s.rest ≤ n → by_length g n x c s ≡ meaning g x c s
unfolding meaning
enough g n x c s p = more_length g n (length s.rest) x c s p (omega arith)

-- each rank lies below the number of ranks
abbrev pub IsRanked : Table → Type 0
IsRanked g = (x : Production) → g.rank x < g.ranks

rank_unfolds : (g : Table) (f : Calls) (k : ℕ) (x : Production) (c : Bool) (s : Reading) → g.rank x < k →
    by_rank g f k x c s ≡ read (look_of g) (follow f (by_rank g f k) (g.rank x) (length s.rest) g.rank) c (g.rule x) s
unfolding by_rank
rank_unfolds g f zero x c s p = absurd (omega arith)
rank_unfolds g f (suc k) x c s p = ap (λ (h : Calls). read (look_of g) h c (g.rule x) s) (same_calls λ y d t.
    follow_cases f f (by_rank g f k) (by_rank g f (suc k)) (g.rank x) (length s.rest) g.rank y d t (λ i. refl)
    (λ i j. more_rank g f k (suc k) y d t (omega arith) (omega arith)))

at_length : (g : Table) (n : ℕ) (x : Production) (c : Bool) (s : Reading) → IsRanked g → length s.rest ≡ n → by_length g n x c s ≡ read (look_of g) (calls g x (length s.rest)) c (g.rule x) s
unfolding by_length calls
at_length g zero x c s ranked e = rank_unfolds g _ g.ranks x c s (ranked x) ∙
    ap (λ (h : Calls). read (look_of g) h c (g.rule x) s) (same_calls λ y d t.
    follow_cases _ (meaning g) (by_length g zero) (meaning g) (g.rank x) (length s.rest) g.rank y d t
    (λ i. absurd (omega arith))
    (λ i j. enough g zero y d t (omega arith)))
at_length g (suc n) x c s ranked e = rank_unfolds g _ g.ranks x c s (ranked x) ∙
    ap (λ (h : Calls). read (look_of g) h c (g.rule x) s) (same_calls λ y d t.
    follow_cases (by_length g n) (meaning g) (by_length g (suc n)) (meaning g) (g.rank x) (length s.rest) g.rank y d t
    (λ i. enough g n y d t (omega arith))
    (λ i j. enough g (suc n) y d t (omega arith)))

-- THE equation: what a production gives is what its rule gives, with its calls by what productions give.
pub meaning_unfolds : (g : Table) (x : Production) (c : Bool) (s : Reading) → IsRanked g →
    meaning g x c s ≡ read (look_of g) (calls g x (length s.rest)) c (g.rule x) s
unfolding meaning
meaning_unfolds g x c s ranked = at_length g (length s.rest) x c s ranked refl
