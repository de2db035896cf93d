-- What a longer mapping gives.
use Rattle.std.proofs.Common.{◌≡◌, ℕ, suc, ◌-◌, ◌<◌, ◌≤◌, nat_eq, ◌&&◌, List, [], ◌∷◌, ◌++◌, length, take, drop, min, ⊎_elim, get_or, Option, Some, None, Bool, true, false, refl, ap, sym, ◌∙◌, cond, arith}
use Rattle.std.proofs.Math.Seq.{take-suc}
use Rattle.std.proofs.lemmas.Bool.{ne_eqb, cases_lt}
use Rattle.std.proofs.lemmas.List.{drop_all}
use Rattle.std.specs.List.{zip}
use Rattle.syntax_tree.specs.Element.{Element, same_element}
use Rattle.syntax_tree.specs.Mapping.{Mapping, or_else, image_of}

or_else_assoc : (a b c : Option Element) → or_else (or_else a b) c ≡ or_else a (or_else b c)
or_else_assoc None b c = refl
or_else_assoc (Some x) b c = refl

-- the last entry comes first
pub image_of-append : (ms : Mapping) (m : Element × Element) (e : Element) → image_of (ms ++ m ∷ []) e ≡ or_else (cond (same_element m.0 e) (Some m.1) None) (image_of ms e)
image_of-append [] m e = by_answer (cond (same_element m.0 e) (Some m.1) None)
  where
    by_answer : (o : Option Element) → or_else None o ≡ or_else o None
    by_answer None = refl
    by_answer (Some x) = refl
image_of-append (n ∷ ms) m e =
    ap (λ o. or_else o (cond (same_element n.0 e) (Some n.1) None)) (image_of-append ms m e)
    ∙ or_else_assoc (cond (same_element m.0 e) (Some m.1) None) (image_of ms e) (cond (same_element n.0 e) (Some n.1) None)

whole_last : (ms : Mapping) (n : ℕ) (m : Element × Element) (e : Element) → n < length ms → m ≡ get_or ms n m
    → image_of (take (suc n) ms) e ≡ or_else (cond (same_element m.0 e) (Some m.1) None) (image_of (take n ms) e)
whole_last ms n m e h is =
    ap (λ l. image_of l e) (take-suc ms n m h)
    ∙ ap (λ x. image_of (take n ms ++ x ∷ []) e) (sym is)
    ∙ image_of-append (take n ms) m e

-- one entry more: the last of `b`
image_of-last : (ms : Mapping) (b : ℕ) (m : Element × Element) (e : Element) → 0 < b → b ≤ length ms → m ≡ get_or ms (b - 1) m
    → image_of (take b ms) e ≡ or_else (cond (same_element m.0 e) (Some m.1) None) (image_of (take (b - 1) ms) e)
image_of-last ms b m e some within is =
    let one_more : b ≡ suc (b - 1) = omega arith in
    ap (λ k. image_of (take k ms) e) one_more ∙ whole_last ms (b - 1) m e (omega arith) is

pub image_of-found : (ms : Mapping) (b : ℕ) (m : Element × Element) (e : Element) → 0 < b → b ≤ length ms → m ≡ get_or ms (b - 1) m
    → same_element m.0 e ≡ true → image_of (take b ms) e ≡ Some m.1
image_of-found ms b m e some within is same =
    image_of-last ms b m e some within is ∙ ap (λ s. or_else (cond s (Some m.1) None) (image_of (take (b - 1) ms) e)) same

pub image_of-passed : (ms : Mapping) (b : ℕ) (m : Element × Element) (e : Element) → 0 < b → b ≤ length ms → m ≡ get_or ms (b - 1) m
    → same_element m.0 e ≡ false → image_of (take b ms) e ≡ image_of (take (b - 1) ms) e
image_of-passed ms b m e some within is differs =
    image_of-last ms b m e some within is ∙ ap (λ s. or_else (cond s (Some m.1) None) (image_of (take (b - 1) ms) e)) differs

pub number_differs : (a b : ℕ) (x : Bool) → (a ≡ b → ⊥) → nat_eq a b && x ≡ false
number_differs a b x h = ap (λ s. s && x) (ne_eqb a b h)

pub way_differs : (x y : Bool) → y ≡ false → x && y ≡ false
way_differs true y h = h
way_differs false y h = refl

zip-nil : (xs : List Element) → zip {K = Element} {X = Element} xs [] ≡ []
zip-nil [] = refl
zip-nil (x ∷ xs) = refl

-- past one of the lists nothing is paired
pub zip-past : (xs ys : List Element) (k : ℕ) → min (length xs) (length ys) ≤ k → zip (drop k xs) (drop k ys) ≡ []
zip-past xs ys k h = ⊎_elim
    (λ l. ap (zip (drop k xs)) (drop_all k ys (omega (arith, l, h))) ∙ zip-nil (drop k xs))
    (λ l. ap (λ v. zip v (drop k ys)) (drop_all k xs l))
    (cases_lt k (length xs))
