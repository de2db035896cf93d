use Rattle.std.proofs.Common.{◌≡◌, ℕ, ◌<◌, ◌≤◌, Bool, length, nat_lt, refl, ◌⊎◌, inl, inr}
use Rattle.std.proofs.lemmas.Bool.{lt-ltb, le-leb, cases_Bool}
use Rattle.rust_grammar.specs.Rule.{Production}
use Rattle.rust_grammar.specs.Meaning.{Reading, Table, follow, meaning, calls}

-- a call is followed where tokens were taken, or where the rank is lower

pub call_followed : (g : Table) (x y : Production) (n : ℕ) (c : Bool) (s : Reading) →
    (length s.rest < n) ⊎ ((length s.rest ≤ n) × (g.rank y < g.rank x)) → calls g x n y c s ≡ meaning g y c s
unfolding calls follow
call_followed g x y n c s (inl p) = rw (lt-ltb _ _ p) refl
call_followed g x y n c s (inr p) = elim (cases_Bool (nat_lt (length s.rest) n)) [
  | inl t ↦ rw t refl
  | inr t ↦ rw (t, le-leb _ _ p.0, lt-ltb _ _ p.1) refl
]
