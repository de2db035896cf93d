-- How a climb goes on, step by step.
use Rattle.std.proofs.Common.{◌≡◌, ℕ, zero, suc, ◌+◌, [], ◌∷◌, ◌++◌, length, Option, Some, None, true, false, cond, refl, ap, sym, ◌∙◌, append_assoc, arith}
use Rattle.std.proofs.lemmas.List.{append-nil}
use Rattle.rowan_green.specs.Forest.{Tree}
use Rattle.rowan.specs.Place.{first_number, index_of}
use Rattle.syntax_tree.specs.Element.{Way, Element, same_element, element_at}
use Rattle.syntax_tree.specs.Handle.{parent_of}
use Rattle.syntax_tree.specs.Mapping.{Mapping, image_of, or_else}
use Rattle.tree_rewrite.specs.Moved.{way_up, way_to, way_by_image, way_from_image, with_number}
use Rattle.tree_rewrite.specs.Climbing.{after_numbers}

-- the payload is met
pub way_up-payload : (on : Element → Option Way) (ms : Mapping) (b : Element) (n : ℕ) (t : Tree) (w : Way) → same_element b (element_at n t w) ≡ true → way_up on ms b n t w ≡ Some []
way_up-payload on ms b n t [] h = ap (λ s. cond s (Some []) (way_by_image on b (image_of ms (element_at n t [])) None)) h
way_up-payload on ms b n t (i ∷ w) h = ap (λ s. cond s (Some []) (way_by_image on b (image_of ms (element_at n t (i ∷ w))) (with_number i (way_up on ms b n t w)))) h

-- a mapped node is met
pub way_up-mapped : (on : Element → Option Way) (ms : Mapping) (b : Element) (n : ℕ) (t : Tree) (w : Way) (o : Element)
    → same_element b (element_at n t w) ≡ false → Some o ≡ image_of ms (element_at n t w) → way_up on ms b n t w ≡ way_from_image on b o.number o.place.root o.place.up
way_up-mapped on ms b n t [] o h m =
    ap (λ s. cond s (Some []) (way_by_image on b (image_of ms (element_at n t [])) None)) h ∙ ap (λ x. way_by_image on b x None) (sym m)
way_up-mapped on ms b n t (i ∷ w) o h m =
    ap (λ s. cond s (Some []) (way_by_image on b (image_of ms (element_at n t (i ∷ w))) (with_number i (way_up on ms b n t w)))) h
    ∙ ap (λ x. way_by_image on b x (with_number i (way_up on ms b n t w))) (sym m)

-- the root is met
pub way_up-root : (on : Element → Option Way) (ms : Mapping) (b : Element) (n : ℕ) (t : Tree) (w : Way)
    → same_element b (element_at n t w) ≡ false → None ≡ image_of ms (element_at n t w) → length w ≡ 0 → way_up on ms b n t w ≡ None
way_up-root on ms b n t [] h m e =
    ap (λ s. cond s (Some []) (way_by_image on b (image_of ms (element_at n t [])) None)) h ∙ ap (λ x. way_by_image on b x None) (sym m)
way_up-root on ms b n t (i ∷ w) h m e = absurd (omega arith)

-- a step up
pub way_up-step : (on : Element → Option Way) (ms : Mapping) (b : Element) (n : ℕ) (t : Tree) (w : Way) (i : ℕ) (up : Way) → w ≡ i ∷ up
    → same_element b (element_at n t w) ≡ false → None ≡ image_of ms (element_at n t w) → way_up on ms b n t w ≡ with_number i (way_up on ms b n t up)
way_up-step on ms b n t w i up is h m =
    ap (way_up on ms b n t) is
    ∙ ap (λ s. cond s (Some []) (way_by_image on b (image_of ms (element_at n t (i ∷ up))) (with_number i (way_up on ms b n t up)))) (ap (λ v. same_element b (element_at n t v)) (sym is) ∙ h)
    ∙ ap (λ x. way_by_image on b x (with_number i (way_up on ms b n t up))) (ap (λ v. image_of ms (element_at n t v)) (sym is) ∙ sym m)

-- one number more
pub after_numbers-more : (v : Way) (i : ℕ) (w : Option Way) → after_numbers v (with_number i w) ≡ after_numbers (v ++ i ∷ []) w
after_numbers-more v i None = refl
after_numbers-more v i (Some u) = ap Some (sym (append_assoc v (i ∷ []) u))

-- on from an output: that is the payload
pub way_from_image-payload : (on : Element → Option Way) (b o : Element) → same_element b o ≡ true → way_from_image on b o.number o.place.root o.place.up ≡ Some []
way_from_image-payload on b o h = by_way o.number o.place.root o.place.up h
  where
    by_way : (n : ℕ) (t : Tree) (up : Way) → same_element b (element_at n t up) ≡ true → way_from_image on b n t up ≡ Some []
    by_way n t [] g = ap (λ s. cond s (Some []) None) g
    by_way n t (i ∷ up) g = ap (λ s. cond s (Some []) (with_number i (on (element_at n t up)))) g

-- that is a root
pub way_from_image-root : (on : Element → Option Way) (b o : Element) → same_element b o ≡ false → None ≡ parent_of o → way_from_image on b o.number o.place.root o.place.up ≡ None
way_from_image-root on b o h p = by_way o.number o.place.root o.place.up h p
  where
    by_way : (n : ℕ) (t : Tree) (up : Way) → same_element b (element_at n t up) ≡ false → None ≡ parent_of (element_at n t up) → way_from_image on b n t up ≡ None
    by_way n t [] g q = ap (λ s. cond s (Some []) None) g
    by_way n t (i ∷ up) g q = cc

-- that has a parent
pub way_from_image-step : (on : Element → Option Way) (b o p : Element) → same_element b o ≡ false → Some p ≡ parent_of o
    → way_from_image on b o.number o.place.root o.place.up ≡ with_number (index_of o.place) (on p)
way_from_image-step on b o p h is = by_way o.number o.place.root o.place.up h is
  where
    by_way : (n : ℕ) (t : Tree) (up : Way) → same_element b (element_at n t up) ≡ false → Some p ≡ parent_of (element_at n t up)
        → way_from_image on b n t up ≡ with_number (first_number up) (on p)
    by_way n t [] g q = cc
    by_way n t (i ∷ up) g q =
        let same : element_at n t up ≡ p = cc in
        ap (λ s. cond s (Some []) (with_number i (on (element_at n t up)))) g ∙ ap (λ e. with_number i (on e)) same

way_to-more : (d : ℕ) (ms : Mapping) (b a : Element) → way_to (d + 1) ms b a ≡ way_up (λ e. way_to d ms b e) ms b a.number a.place.root a.place.up
way_to-more d ms b a = let e : d + 1 ≡ suc d = omega arith in ap (λ k. way_to k ms b a) e

-- what a climb from a node to a mapped one makes of the way
pub way_to-climbed : (d : ℕ) (ms : Mapping) (b a o : Element) (v u : Way)
    → after_numbers v (way_up (λ e. way_to d ms b e) ms b a.number a.place.root a.place.up) ≡ after_numbers u (way_from_image (λ e. way_to d ms b e) b o.number o.place.root o.place.up)
    → after_numbers v (way_to (d + 1) ms b a) ≡ after_numbers u (way_from_image (λ e. way_to d ms b e) b o.number o.place.root o.place.up)
way_to-climbed d ms b a o v u h = ap (after_numbers v) (way_to-more d ms b a) ∙ h

pub after_numbers-end : (v : Way) → after_numbers v (Some []) ≡ Some v
after_numbers-end v = ap Some (append-nil v)

-- a step up from what the node is mapped to, in a climb that began with the numbers `v`
pub way_to-goes_on : (d : ℕ) (ms : Mapping) (b a o p : Element) (v u : Way)
    → after_numbers v (way_up (λ e. way_to d ms b e) ms b a.number a.place.root a.place.up) ≡ after_numbers u (way_from_image (λ e. way_to d ms b e) b o.number o.place.root o.place.up)
    → same_element b o ≡ false → Some p ≡ parent_of o
    → after_numbers v (way_to (d + 1) ms b a) ≡ after_numbers (u ++ index_of o.place ∷ []) (way_to d ms b p)
way_to-goes_on d ms b a o p v u h differs is =
    way_to-climbed d ms b a o v u h
    ∙ ap (after_numbers u) (way_from_image-step (λ e. way_to d ms b e) b o p differs is)
    ∙ after_numbers-more u (index_of o.place) (way_to d ms b p)

-- ---- the root term plays no part in a climb
pub image_of-any_tree : (ms : Mapping) (n : ℕ) (t s : Tree) (w : Way) → image_of ms (element_at n t w) ≡ image_of ms (element_at n s w)
image_of-any_tree [] n t s w = refl
image_of-any_tree (m ∷ ms) n t s w = ap (λ o. or_else o (cond (same_element m.0 (element_at n s w)) (Some m.1) None)) (image_of-any_tree ms n t s w)

way_up-any_tree : (on : Element → Option Way) (ms : Mapping) (b : Element) (n : ℕ) (t s : Tree) (w : Way) → way_up on ms b n t w ≡ way_up on ms b n s w
way_up-any_tree on ms b n t s [] = ap (λ o. cond (same_element b (element_at n s [])) (Some []) (way_by_image on b o None)) (image_of-any_tree ms n t s [])
way_up-any_tree on ms b n t s (i ∷ w) =
    let image = image_of-any_tree ms n t s (i ∷ w) in
    let above = way_up-any_tree on ms b n t s w in
    λ j. cond (same_element b (element_at n s (i ∷ w))) (Some []) (way_by_image on b (image j) (with_number i (above j)))

pub way_to-any_tree : (d : ℕ) (ms : Mapping) (b : Element) (n : ℕ) (t s : Tree) (w : Way) → way_to d ms b (element_at n t w) ≡ way_to d ms b (element_at n s w)
way_to-any_tree zero ms b n t s w = refl
way_to-any_tree (suc d) ms b n t s w = way_up-any_tree (λ e. way_to d ms b e) ms b n t s w
