-- By a mapping whose outputs are in trees of greater numbers an element leads to one end.
use Rattle.std.proofs.Common.{◌≡◌, ℕ, zero, suc, ◌+◌, ◌<◌, [], ◌∷◌, length, Option, Some, None, option_map, option_and_then, true, refl, ap, sym, ◌∙◌, subst, arith}
use Rattle.std.proofs.lemmas.Option.{same_Some, none-some}
use Rattle.rowan_green.specs.Forest.{Tree}
use Rattle.syntax_tree.specs.Element.{Way, Element, element_at, term_of}
use Rattle.syntax_tree.specs.Mapping.{Mapping, image_of, or_else, are_ordered}
use Rattle.tree_rewrite.proofs.AheadLemmas.{ahead, ahead-few, IsAhead, image-ahead}
use Rattle.annotated_elements.specs.Following.{child_of, lead_at, lead_of, standing, end_after, followed_within, followed}
use Rattle.annotated_elements.specs.Follows.{Follows, ends, lost, on}

-- a lead has fewer entries ahead
child-ahead : (ms : Mapping) (n i : ℕ) (x : Option Element) (o : Element) → ((y : Element) → x ≡ Some y → IsAhead ms n y) → option_map (child_of i) x ≡ Some o → IsAhead ms n o
child-ahead ms n i None o h is = absurd (none-some o is)
child-ahead ms n i (Some y) o h is =
    let number : y.number ≡ o.number = ap (λ z. z.number) (same_Some _ _ is) in
    subst (λ k. (n < k) × (ahead ms k < ahead ms n)) number (h y refl)

lead-ahead : (ms : Mapping) (n : ℕ) (t : Tree) (w : Way) (o : Element) → are_ordered ms ≡ true → lead_at ms n t w ≡ Some o → IsAhead ms n o
lead-ahead ms n t [] o h is = image-ahead ms (element_at n t []) o h is
lead-ahead ms n t (i ∷ up) o h is =
    by_image (λ y s. lead-ahead ms n t up y h s) (image_of ms (element_at n t (i ∷ up))) refl is
  where
    by_image : ((y : Element) → lead_at ms n t up ≡ Some y → IsAhead ms n y) → (x : Option Element) → image_of ms (element_at n t (i ∷ up)) ≡ x
        → or_else x (option_map (child_of i) (lead_at ms n t up)) ≡ Some o → IsAhead ms n o
    by_image above None own r = child-ahead ms n i (lead_at ms n t up) o above r
    by_image above (Some y) own r = image-ahead ms (element_at n t (i ∷ up)) o h (own ∙ r)

-- the element at its own up-path is itself
standing-same : (x y : Element) → standing x ≡ Some y → standing x ≡ Some x
standing-same x y h = by_term (term_of x) refl h
  where
    by_term : (o : Option _) → term_of x ≡ o → option_map (λ _. x) o ≡ Some y → option_map (λ _. x) (term_of x) ≡ Some x
    by_term None is r = absurd (none-some y r)
    by_term (Some s) is r = ap (option_map (λ _. x)) is

-- with a step for each entry ahead, and one more, the end is reached
reached : (d : ℕ) (ms : Mapping) (e : Element) → are_ordered ms ≡ true → ahead ms e.number < d → Follows ms e (followed_within d ms e)
reached zero ms e h few = absurd (omega arith)
reached (suc d) ms e h few = by_lead (λ x less. reached d ms x h less) (lead_of ms e) refl
  where
    by_standing : ((x : Element) → ahead ms x.number < d → Follows ms x (followed_within d ms x)) → (x : Element) → lead_of ms e ≡ Some x → (s : Option Element) → standing x ≡ s
        → Follows ms e (end_after (followed_within d ms) e (Some x))
    by_standing after x led None is = subst (λ s. Follows ms e (option_and_then (followed_within d ms) s)) (sym is) (lost led is)
    by_standing after x led (Some y) is =
        let there = standing-same x y is in
        let later = lead-ahead ms e.number e.place.root e.place.up x h led in
        subst (λ s. Follows ms e (option_and_then (followed_within d ms) s)) (sym there) (on led there (after x (omega (arith, later.1, few))))

    by_lead : ((x : Element) → ahead ms x.number < d → Follows ms x (followed_within d ms x)) → (l : Option Element) → lead_of ms e ≡ l → Follows ms e (end_after (followed_within d ms) e l)
    by_lead after None led = ends led
    by_lead after (Some x) led = by_standing after x led (standing x) refl

-- there is one end
one_end : {ms : Mapping} {e : Element} {o q : Option Element} → Follows ms e o → Follows ms e q → o ≡ q
one_end (ends l) (ends k) = refl
one_end (ends l) (lost k s) = cc
one_end (ends l) (on k s f) = cc
one_end (lost l s) (ends k) = cc
one_end (lost l s) (lost k r) = refl
one_end (lost l s) (on k r f) = cc
one_end (on l s f) (ends k) = cc
one_end (on l s f) (lost k r) = cc
one_end {ms = ms} {q = q} (on {x = x} l s f) (on {x = y} k r g) =
    let same : y ≡ x = cc in
    one_end f (subst (λ z. Follows ms z q) same g)

pub ends_are_one : (ms : Mapping) (e : Element) → are_ordered ms ≡ true → Follows ms e (followed ms e) × ((o : Option Element) → Follows ms e o → o ≡ followed ms e)
ends_are_one ms e h =
    let end = reached (length ms + 1) ms e h (omega (arith, ahead-few ms e.number)) in
    (end, λ o g. one_end g end)
