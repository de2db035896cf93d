-- What holds of what each rule gives, if it holds of what its calls give, holds of what productions mean.
use Rattle.std.proofs.Common.{◌≡◌, ℕ, zero, suc, ◌<◌, ◌≤◌, Bool, true, false, ◌&&◌, ◌||◌, length, nat_lt, nat_le, refl, sym, subst, ◌∙◌, arith, inl, inr, if◌then◌else◌}
use Rattle.std.proofs.lemmas.Bool.{ltb-true, leb-true, lt-ltb, le-leb, or_cases}
use Rattle.rust_grammar.specs.Rule.{Production}
use Rattle.rust_grammar.specs.Meaning.{Reading, Calls, Table, read, look_of, meaning}
use Rattle.rust_grammar.specs.Whole.{rule, whole}
use Rattle.rust_grammar.proofs.Plain.{IsFine, IsBelow, AgreesBelow, all_facts, plain_step, meaning_is_plain, fine-rank, and_l, and_r}
use Rattle.rust_grammar.proofs.WholeTable.{claim, all_fine}
use Rattle.rust_grammar.proofs.Spelling.{both-true, or-first, or-second}

-- a call that production `x` makes if `n` tokens were left where it began
unfoldable is_made : Table → Production → ℕ → Production → Reading → Bool
is_made g x n y t = nat_lt (length t.rest) n || (nat_le (length t.rest) n && nat_lt (g.rank y) (g.rank x))

-- It gives what the called production means. Of other calls it makes no difference what they give.
unfoldable made : Table → Calls → Production → ℕ → Calls
made g other x n y d t = if is_made g x n y t then meaning g y d t else other y d t

is-made : (g : Table) (x : Production) (n : ℕ) (y : Production) (t : Reading) → IsBelow g x n y t → is_made g x n y t ≡ true
unfolding is_made
is-made g x n y t (inl p) = or-first (nat_lt (length t.rest) n) _ (lt-ltb _ _ p)
is-made g x n y t (inr p) = or-second (nat_lt (length t.rest) n) (nat_le (length t.rest) n && nat_lt (g.rank y) (g.rank x)) (both-true _ _ (le-leb _ _ p.0) (lt-ltb _ _ p.1))

agrees : (g : Table) (other : Calls) (x : Production) (n : ℕ) → AgreesBelow g x n (made g other x n)
unfolding made
agrees g other x n y d t below = rw (is-made g x n y t below) refl

made-below : (g : Table) (x : Production) (n : ℕ) (y : Production) (t : Reading) → is_made g x n y t ≡ true → IsBelow g x n y t
unfolding is_made
made-below g x n y t e = elim (or_cases (nat_lt (length t.rest) n) (nat_le (length t.rest) n && nat_lt (g.rank y) (g.rank x)) e) [
  | inl i ↦ inl (ltb-true _ _ i)
  | inr i ↦ inr (leb-true _ _ (and_l _ _ i), ltb-true _ _ (and_r _ _ i))
]

-- a fact of a production, of the mode, of where it begins and of what it gives
abbrev pub Fact : Type 1
Fact = Production → Bool → Reading → Reading → Type 0

abbrev pub HoldOf : Fact → Calls → Type 0
HoldOf P call = (y : Production) (d : Bool) (t : Reading) → P y d t (call y d t)

module _ (g : Table) (f : Production → Bool) (ok : IsFine g f) (P : Fact) (E : Fact) (other : Calls) (otherwise : HoldOf P other) (also : HoldOf E other) (plain : HoldOf E (meaning g)) (step : (call : Calls) → HoldOf P call → HoldOf E call → (x : Production) (c : Bool) (s : Reading) → P x c s (read (look_of g) call c (g.rule x) s)) where
  chosen-call : (b : Bool) (Q : Reading → Type 0) (u v : Reading) → (b ≡ true → Q u) → Q v → Q (if b then u else v)
  chosen-call true Q u v p q = p refl
  chosen-call false Q u v p q = q

  by-rule : (x : Production) (c : Bool) (s : Reading) → ((y : Production) (d : Bool) (t : Reading) → IsBelow g x (length s.rest) y t → P y d t (meaning g y d t)) → P x c s (meaning g x c s)
  unfolding made
  by-rule x c s below =
      let call = made g other x (length s.rest) in
      let same : meaning g x c s ≡ read (look_of g) call c (g.rule x) s =
      meaning_is_plain g f ok x c s
      ∙ sym (plain_step g f ok x c s call (agrees g other x (length s.rest)) (λ y d t h. all_facts g f ok y d t)).same in
      subst (λ (u : Reading). P x c s u) (sym same) (step call
      (λ y d t. chosen-call (is_made g x (length s.rest) y t) (P y d t) (meaning g y d t) (other y d t) (λ e. below y d t (made-below g x (length s.rest) y t e)) (otherwise y d t))
      (λ y d t. chosen-call (is_made g x (length s.rest) y t) (E y d t) (meaning g y d t) (other y d t) (λ e. plain y d t) (also y d t))
      x c s)

  by-both : (n k : ℕ) (x : Production) (c : Bool) (s : Reading) → length s.rest ≤ n → g.rank x < k → P x c s (meaning g x c s)
  by-both n zero x c s le lt = absurd (omega (arith, lt))
  by-both zero (suc k) x c s le lt = by-rule x c s (λ y d t h. elim h [
    | inl p ↦ absurd (omega (arith, p, le))
    | inr p ↦ by-both zero k y d t (omega (arith, p.0, le)) (omega (arith, p.1, lt))
  ])
  by-both (suc n) (suc k) x c s le lt = by-rule x c s (λ y d t h. elim h [
    | inl p ↦ by-both n g.ranks y d t (omega (arith, p, le)) (fine-rank g f ok y)
    | inr p ↦ by-both (suc n) k y d t (omega (arith, p.0, le)) (omega (arith, p.1, lt))
  ])

  pub meaning-holds-of : HoldOf P (meaning g)
  meaning-holds-of x c s = by-both (length s.rest) g.ranks x c s (omega arith) (fine-rank g f ok x)

-- `meaning-holds-of` for the whole grammar
pub meaning-holds : (P E : Fact) (other : Calls) (otherwise : HoldOf P other) (also : HoldOf E other) (plain : HoldOf E (meaning whole)) (step : (call : Calls) → HoldOf P call → HoldOf E call → (x : Production) (c : Bool) (s : Reading) → P x c s (read (look_of whole) call c (rule x) s)) → HoldOf P (meaning whole)
unfolding whole
meaning-holds = meaning-holds-of whole claim all_fine
