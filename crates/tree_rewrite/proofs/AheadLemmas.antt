-- By a mapping whose outputs are in trees of greater numbers an image has fewer entries ahead. So a climb ends.
use Rattle.std.proofs.Common.{◌≡◌, ℕ, zero, suc, ◌+◌, ◌<◌, ◌≤◌, [], ◌∷◌, length, Option, Some, None, Bool, true, false, cond, nat_eq, nat_le, nat_lt, refl, ap, sym, ◌∙◌, subst, arith}
use Rattle.std.proofs.lemmas.Bool.{and_parts, eqb-true}
use Rattle.std.proofs.lemmas.Bool.Decides.{nat_tests}
use Rattle.std.proofs.lemmas.Option.{same_Some, none-some}
use Rattle.rowan_green.specs.Forest.{Tree}
use Rattle.syntax_tree.specs.Element.{Way, Element, element_at, same_way, same_element}
use Rattle.syntax_tree.specs.Mapping.{Mapping, image_of, or_else, are_ordered}
use Rattle.tree_rewrite.specs.Moved.{way_up, way_to, way_by_image, way_from_image, with_number}

-- how many entries have an input in a tree of this number or a greater one
abbrev pub ahead : Mapping → ℕ → ℕ
ahead [] n = 0
ahead (m ∷ ms) n = cond (nat_le n m.0.number) 1 0 + ahead ms n

pub ahead-few : (ms : Mapping) (n : ℕ) → ahead ms n ≤ length ms
ahead-few [] n = omega arith
ahead-few (m ∷ ms) n = let h = ahead-few ms n in grind (arith, nat_tests)

ahead-fewer : (ms : Mapping) (a b : ℕ) → a ≤ b → ahead ms b ≤ ahead ms a
ahead-fewer [] a b h = omega arith
ahead-fewer (m ∷ ms) a b h = let less = ahead-fewer ms a b h in grind (arith, nat_tests)

-- an image is of a tree of a greater number, and has fewer entries ahead
abbrev pub IsAhead : Mapping → ℕ → Element → Type 0
IsAhead ms n o = (n < o.number) × (ahead ms o.number < ahead ms n)

one_more : (m : Element × Element) (ms : Mapping) (n : ℕ) (o : Element) → IsAhead ms n o → IsAhead (m ∷ ms) n o
one_more m ms n o h = let up = h.0 in let few = h.1 in (up, grind (arith, nat_tests))

this_one : (m : Element × Element) (ms : Mapping) (n : ℕ) → m.0.number ≡ n → m.0.number < m.1.number → IsAhead (m ∷ ms) n m.1
this_one m ms n same up = let few = ahead-fewer ms n m.1.number (omega arith) in (omega arith, grind (arith, nat_tests))

pub image-ahead : (ms : Mapping) (e o : Element) → are_ordered ms ≡ true → image_of ms e ≡ Some o → IsAhead ms e.number o
image-ahead [] e o h is = absurd (none-some o is)
image-ahead (m ∷ ms) e o h is =
    let both = and_parts (nat_lt m.0.number m.1.number) (are_ordered ms) h in
    by_rest both.0 (image_of ms e) (λ x r. image-ahead ms e x both.1 r) refl is
  where
    by_test : nat_lt m.0.number m.1.number ≡ true → (b : Bool) → same_element m.0 e ≡ b → cond b (Some m.1) None ≡ Some o → IsAhead (m ∷ ms) e.number o
    by_test up false s r = absurd (none-some o r)
    by_test up true s r =
        let number : m.0.number ≡ e.number = eqb-true _ _ (and_parts (nat_eq m.0.number e.number) (same_way m.0.place.up e.place.up) s).0 in
        let greater : m.0.number < m.1.number = grind (arith, nat_tests, up) in
        subst (λ x. IsAhead (m ∷ ms) e.number x) (same_Some _ _ r) (this_one m ms e.number number greater)

    by_rest : nat_lt m.0.number m.1.number ≡ true → (x : Option Element) → ((y : Element) → image_of ms e ≡ Some y → IsAhead ms e.number y) → image_of ms e ≡ x
        → or_else x (cond (same_element m.0 e) (Some m.1) None) ≡ Some o → IsAhead (m ∷ ms) e.number o
    by_rest up None low is_none r = by_test up (same_element m.0 e) refl r
    by_rest up (Some y) low is_some r = one_more m ms e.number o (low o (is_some ∙ r))

-- ---- a climb that goes on alike from all images goes alike
from_image-same : (f g : Element → Option Way) (b : Element) (n : ℕ) (t : Tree) (up : Way) → ((x : Element) → x.number ≡ n → f x ≡ g x)
    → way_from_image f b n t up ≡ way_from_image g b n t up
from_image-same f g b n t [] h = refl
from_image-same f g b n t (i ∷ up) h = ap (λ w. cond (same_element b (element_at n t (i ∷ up))) (Some []) (with_number i w)) (h (element_at n t up) refl)

by_image-same : (f g : Element → Option Way) (b : Element) (ms : Mapping) (n : ℕ) (x : Option Element) (v w : Option Way) → ((o : Element) → x ≡ Some o → IsAhead ms n o)
    → ((y : Element) → ahead ms y.number < ahead ms n → f y ≡ g y) → v ≡ w → way_by_image f b x v ≡ way_by_image g b x w
by_image-same f g b ms n None v w far h same = same
by_image-same f g b ms n (Some o) v w far h same =
    from_image-same f g b o.number o.place.root o.place.up (λ x is. h x (subst (λ k. ahead ms k < ahead ms n) (sym is) (far o refl).1))

up-same : (f g : Element → Option Way) (b : Element) (ms : Mapping) (n : ℕ) (t : Tree) (w : Way) → are_ordered ms ≡ true → ((y : Element) → ahead ms y.number < ahead ms n → f y ≡ g y)
    → way_up f ms b n t w ≡ way_up g ms b n t w
up-same f g b ms n t [] ordered h =
    ap (cond (same_element b (element_at n t [])) (Some []))
    (by_image-same f g b ms n (image_of ms (element_at n t [])) None None (λ o is. image-ahead ms (element_at n t []) o ordered is) h refl)
up-same f g b ms n t (i ∷ up) ordered h =
    ap (cond (same_element b (element_at n t (i ∷ up))) (Some []))
    (by_image-same f g b ms n (image_of ms (element_at n t (i ∷ up))) (with_number i (way_up f ms b n t up)) (with_number i (way_up g ms b n t up))
    (λ o is. image-ahead ms (element_at n t (i ∷ up)) o ordered is) h (ap (with_number i) (up-same f g b ms n t up ordered h)))

-- two bounds above the number of entries ahead
to-same : (d e : ℕ) (ms : Mapping) (b a : Element) → are_ordered ms ≡ true → ahead ms a.number < d → ahead ms a.number < e → way_to d ms b a ≡ way_to e ms b a
to-same zero e ms b a ordered few less = absurd (omega arith)
to-same (suc d) zero ms b a ordered few less = absurd (omega arith)
to-same (suc d) (suc e) ms b a ordered few less =
    up-same (λ x. way_to d ms b x) (λ x. way_to e ms b x) b ms a.number a.place.root a.place.up ordered
    (λ y fewer. to-same d e ms b y ordered (omega (arith, few, fewer)) (omega (arith, less, fewer)))

pub climbs_end : (ms : Mapping) (more : ℕ) (b a : Element) → are_ordered ms ≡ true → way_to (length ms + 1 + more) ms b a ≡ way_to (length ms + 1) ms b a
climbs_end ms more b a ordered =
    let few = ahead-few ms a.number in
    to-same (length ms + 1 + more) (length ms + 1) ms b a ordered (omega (arith, few)) (omega (arith, few))
