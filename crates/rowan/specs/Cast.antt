-- Nodes that can be cast.
use Rattle.std.specs.Prelude.{◌≡◌, ℕ, List, [], ◌∷◌, Bool, Option, Result, MatchOption, MatchResult}
use Rattle.std.specs.List.{filter}
use Rattle.rowan.specs.Place.{Place, kind_at}

-- whether the kind of the node at a place can be cast
abbrev pub can : {K : Type 0} → (ℕ → K) → (K → Bool) → Place → Bool
can from_raw casts p = casts (from_raw (kind_at p))

-- the first node of a list that can be cast, as the typed node at its place; or an error, and nothing is left; or the
-- end, if no node can be cast
abbrev pub CastsOrFails : {N E : Type 0} → (Place → Bool) → (N → Place) → List Place → Option (Result N E) → List Place → Type 0
CastsOrFails test place s r t = MatchOption r ((filter test s ≡ []) × (t ≡ [])) (λ x. MatchResult x (λ n. filter test s ≡ place n ∷ filter test t) (λ _. t ≡ []))
