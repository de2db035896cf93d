-- Mapping the identity over a list leaves it unchanged.
use Rattle.std.proofs.Common.{◌≡◌, List, [], ◌∷◌, map, refl, ap}

pub map-same : {A : Type 0} (xs : List A) → map (λ y. y) xs ≡ xs
map-same [] = refl
map-same {A} (x ∷ xs) = ap (λ (ys : List A). x ∷ ys) (map-same xs)
