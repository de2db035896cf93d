-- The first messages of a list.
use Rattle.std.proofs.Common.{◌≡◌, ◌∙◌, ℕ, zero, suc, min, List, [], ◌∷◌, length, take, map, refl, sym, ap, arith}
use Rattle.line_index.specs.declared.encoding.Encoding.{Encoding}
use Rattle.rust_document.specs.Reading.{Message}
use Rattle.rust_source.specs.RangedErrors.{ranged}
use Rattle.rust_source.specs.declared.ranged_errors.RangedError.{RangedError}
use Rattle.document_views.specs.Listings.{shown}

take-nil : {X : Type 0} (n : ℕ) → take {A = X} n [] ≡ []
take-nil zero = refl
take-nil (suc n) = refl

take-min : (xs : List RangedError) (n : ℕ) → take (min (length xs) n) xs ≡ take n xs
take-min [] n = take-nil (min 0 n) ∙ sym (take-nil n)
take-min (x ∷ xs) zero =
    let none : min (length (x ∷ xs)) 0 ≡ 0 = omega arith in
    ap (λ m. take m (x ∷ xs)) none
take-min (x ∷ xs) (suc n) =
    let less : min (length (x ∷ xs)) (suc n) ≡ suc (min (length xs) n) = omega arith in
    ap (λ m. take m (x ∷ xs)) less ∙ ap (λ rest. x ∷ rest) (take-min xs n)

map-take : (xs : List RangedError) (n : ℕ) → map ranged (take n xs) ≡ take n (map ranged xs)
map-take [] n = ap (map ranged) (take-nil n) ∙ sym (take-nil n)
map-take (x ∷ xs) zero = refl
map-take (x ∷ xs) (suc n) = ap (λ rest. ranged x ∷ rest) (map-take xs n)

-- the first of the messages of a text, with their places
pub shown-first :
    (e : Encoding) (index text : List ℕ) (errors first : List RangedError) (count n : ℕ) (all : List (Message × ℕ))
    → index ≡ text → first ≡ take count errors → count ≡ min (length errors) n → map ranged errors ≡ all
    → map (shown e index) (map ranged first) ≡ map (shown e text) (take n all)
shown-first e index text errors first count n all same some least is =
    ap (λ t. map (shown e t) (map ranged first)) same
    ∙ ap (λ xs. map (shown e text) (map ranged xs)) (some ∙ ap (λ m. take m errors) least ∙ take-min errors n)
    ∙ ap (map (shown e text)) (map-take errors n ∙ ap (take n) is)
