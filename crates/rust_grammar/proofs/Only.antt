-- What satisfies the equations of a table is what the table means.
use Rattle.std.proofs.Common.{◌≡◌, ℕ, zero, suc, ◌<◌, ◌≤◌, Bool, length, sym, ◌∙◌, arith, inl, inr}
use Rattle.rust_grammar.specs.Rule.{Production}
use Rattle.rust_grammar.specs.Meaning.{Reading, Calls, Table, read, look_of, meaning}
use Rattle.rust_grammar.proofs.Plain.{IsFine, IsBelow, all_facts, fine-rank, plain_step, meaning_is_plain}

module _ (g : Table) (f : Production → Bool) (ok : IsFine g f) (gives : Calls) (equation : (x : Production) (c : Bool) (s : Reading) → gives x c s ≡ read (look_of g) gives c (g.rule x) s) where
  step : (x : Production) (c : Bool) (s : Reading) → ((y : Production) (d : Bool) (t : Reading) → IsBelow g x (length s.rest) y t → gives y d t ≡ meaning g y d t) → gives x c s ≡ meaning g x c s
  step x c s below =
      equation x c s
      ∙ (plain_step g f ok x c s gives below (λ y d t i. all_facts g f ok y d t)).same
      ∙ sym (meaning_is_plain g f ok x c s)

  below_both : (n k : ℕ) (x : Production) (c : Bool) (s : Reading) → length s.rest ≤ n → g.rank x < k → gives x c s ≡ meaning g x c s
  below_both n zero x c s le lt = absurd (omega (arith, lt))
  below_both zero (suc k) x c s le lt = step x c s (λ y d t h. elim h [
    | inl p ↦ absurd (omega (arith, p, le))
    | inr p ↦ below_both zero k y d t (omega (arith, p.0, le)) (omega (arith, p.1, lt))
  ])
  below_both (suc n) (suc k) x c s le lt = step x c s (λ y d t h. elim h [
    | inl p ↦ below_both n g.ranks y d t (omega (arith, p, le)) (fine-rank g f ok y)
    | inr p ↦ below_both (suc n) k y d t (omega (arith, p.0, le)) (omega (arith, p.1, lt))
  ])

  -- what satisfies the equation of the productions is what they mean
  pub only-meaning : (x : Production) (c : Bool) (s : Reading) → gives x c s ≡ meaning g x c s
  only-meaning x c s = below_both (length s.rest) g.ranks x c s (omega arith) (fine-rank g f ok x)
