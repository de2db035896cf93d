-- What an iterator yields that can fail to allocate.
use Rattle.std.specs.Prelude.{◌≡◌, List, [], ◌∷◌, Option, Result, MatchOption, MatchResult}

-- the first of what is left; or an error, and nothing is left; or the end
abbrev pub YieldsOrFails : {A E : Type 0} → List A → Option (Result A E) → List A → Type 0
YieldsOrFails s r t = MatchOption r ((s ≡ []) × (t ≡ [])) (λ x. MatchResult x (λ a. s ≡ a ∷ t) (λ _. t ≡ []))

-- the first of the elements that are picked from a list; or an error, and nothing is left; or the end
abbrev pub PicksOrFails : {X A E : Type 0} → (List X → List A) → List X → Option (Result A E) → List X → Type 0
PicksOrFails pick s r t = YieldsOrFails (pick s) r (pick t)
