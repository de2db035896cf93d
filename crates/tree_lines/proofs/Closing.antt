-- The end of an element in a list.
use Rattle.std.proofs.Common.{◌≡◌, ◌<◌, ℕ, zero, suc, List, [], ◌∷◌, ◌++◌, length, map, get_or, refl, ap, ◌∙◌, arith, length-append}
use Rattle.std.proofs.Math.ListN.{set}
use Rattle.tree_lines.specs.Elements.{Element}
use Rattle.tree_lines.specs.Listed.{closed, element_of}
use Rattle.tree_lines.specs.declared.rows.Row.{Row}

-- the element at index `length xs` is closed
pub closed-after : (xs : List Element) (e : Element) (ys : List Element) (end : ℕ) →
    closed (length xs) end (xs ++ e ∷ ys) ≡ xs ++ record { depth = e.depth; kind = e.kind; start = e.start; end = end } ∷ ys
closed-after [] e ys end = refl
closed-after (x ∷ xs) e ys end = ap (λ (l : List Element). x ∷ l) (closed-after xs e ys end)

-- what is written over a row that has another end
pub closed-set : (rows : List Row) (n end : ℕ) (old new : Row) → n < length rows → old ≡ get_or rows n old →
    element_of new ≡ record { depth = old.depth; kind = (element_of old).kind; start = old.start; end = end } →
    map element_of (set rows n new) ≡ closed n end (map element_of rows)
closed-set [] n end old new within is same = absurd (omega arith)
closed-set (r ∷ rs) zero end old new within is same =
    ap (λ (e : Element). e ∷ map element_of rs)
    (same ∙ ap (λ (z : Row). record { depth = z.depth; kind = (element_of z).kind; start = z.start; end = end }) is)
closed-set (r ∷ rs) (suc n) end old new within is same =
    ap (λ (l : List Element). element_of r ∷ l) (closed-set rs n end old new (omega arith) is same)

-- lists with one more element after them
pub snoc-parts : (xs ys : List ℕ) (a b : ℕ) → xs ++ a ∷ [] ≡ ys ++ b ∷ [] → (xs ≡ ys) × (a ≡ b)
snoc-parts [] [] a b e = (refl, cc)
snoc-parts [] (y ∷ ys) a b e = absurd (omega (arith, ap (λ (l : List ℕ). length l) e, length-append ys (b ∷ [])))
snoc-parts (x ∷ xs) [] a b e = absurd (omega (arith, ap (λ (l : List ℕ). length l) e, length-append xs (a ∷ [])))
snoc-parts (x ∷ xs) (y ∷ ys) a b e =
    let head : x ≡ y = cc in
    let tail : xs ++ a ∷ [] ≡ ys ++ b ∷ [] = cc in
    let more = snoc-parts xs ys a b tail in
    (ap (λ (z : ℕ). z ∷ xs) head ∙ ap (λ (l : List ℕ). y ∷ l) more.0, more.1)
