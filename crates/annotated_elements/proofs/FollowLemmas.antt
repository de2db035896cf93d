-- How following goes on, step by step.
use Rattle.std.proofs.Common.{◌≡◌, ℕ, suc, ◌+◌, [], ◌∷◌, ◌++◌, length, take, drop, get_or, ◌<◌, Option, Some, None, option_map, option_and_then, refl, ap, sym, ◌∙◌, append_assoc, arith}
use Rattle.std.proofs.lemmas.List.{take_more, drop_more}
use Rattle.rowan_green.specs.Forest.{Tree}
use Rattle.syntax_tree.specs.Element.{Way, Element, element_at}
use Rattle.syntax_tree.specs.Mapping.{Mapping, image_of, or_else}
use Rattle.annotated_elements.specs.Following.{child_of, lead_at, lead_of, standing, end_after, followed_within}
use Rattle.annotated_elements.specs.Nearest.{further_down}

-- a mapped element
pub lead-here : (ms : Mapping) (n : ℕ) (t : Tree) (w : Way) (o : Element) → Some o ≡ image_of ms (element_at n t w) → Some o ≡ lead_at ms n t w
lead-here ms n t [] o h = h
lead-here ms n t (i ∷ up) o h = ap (λ x. or_else x (option_map (child_of i) (lead_at ms n t up))) h

-- a root that is not mapped
pub lead-root : (ms : Mapping) (n : ℕ) (t : Tree) (w : Way) → None ≡ image_of ms (element_at n t w) → length w ≡ 0 → None ≡ lead_at ms n t w
lead-root ms n t [] h e = h
lead-root ms n t (i ∷ up) h e = absurd (omega arith)

-- a step up
pub lead-step : (ms : Mapping) (n : ℕ) (t : Tree) (w : Way) (i : ℕ) (up : Way) → w ≡ i ∷ up → None ≡ image_of ms (element_at n t w)
    → lead_at ms n t w ≡ option_map (child_of i) (lead_at ms n t up)
lead-step ms n t w i up is h =
    ap (lead_at ms n t) is
    ∙ ap (λ x. or_else x (option_map (child_of i) (lead_at ms n t up))) (ap (λ v. image_of ms (element_at n t v)) (sym is) ∙ sym h)

-- no number further down
pub no_further : (x : Option Element) → option_map (further_down []) x ≡ x
no_further None = refl
no_further (Some e) = refl

-- one number further down
pub one_further : (v : Way) (i : ℕ) (x : Option Element) → option_map (further_down v) (option_map (child_of i) x) ≡ option_map (further_down (v ++ i ∷ [])) x
one_further v i None = refl
one_further v i (Some e) = ap (λ w. Some (element_at e.number e.place.root w)) (sym (append_assoc v (i ∷ []) e.place.up))

-- past an element that is not mapped
pub further-step : (ms : Mapping) (n : ℕ) (t : Tree) (w : Way) (b : ℕ) → b < length w → None ≡ image_of ms (element_at n t (drop b w))
    → option_map (further_down (take (b + 1) w)) (lead_at ms n t (drop (b + 1) w)) ≡ option_map (further_down (take b w)) (lead_at ms n t (drop b w))
further-step ms n t w b some unmapped =
    let i = get_or w b 0 in
    let above = lead_at ms n t (drop (b + 1) w) in
    ap (λ v. option_map (further_down v) above) (take_more w b 0 some)
    ∙ sym (one_further (take b w) i above)
    ∙ ap (option_map (further_down (take b w))) (sym (lead-step ms n t (drop b w) i (drop (b + 1) w) (drop_more w b 0 some) unmapped))

followed-more : (d : ℕ) (ms : Mapping) (e : Element) → followed_within (d + 1) ms e ≡ end_after (followed_within d ms) e (lead_of ms e)
followed-more d ms e = let k : d + 1 ≡ suc d = omega arith in ap (λ n. followed_within n ms e) k

-- an element that leads nowhere
pub followed-end : (d : ℕ) (ms : Mapping) (e : Element) → None ≡ lead_of ms e → followed_within (d + 1) ms e ≡ Some e
followed-end d ms e h = followed-more d ms e ∙ ap (end_after (followed_within d ms) e) (sym h)

-- one that leads to `s`
pub followed-on : (d : ℕ) (ms : Mapping) (e x : Element) (s : Option Element) → Some x ≡ lead_of ms e → s ≡ standing x
    → followed_within (d + 1) ms e ≡ option_and_then (followed_within d ms) s
followed-on d ms e x s h is =
    followed-more d ms e ∙ ap (end_after (followed_within d ms) e) (sym h) ∙ ap (option_and_then (followed_within d ms)) (sym is)

-- no step is left
pub followed-none : (ms : Mapping) (s : Option Element) → option_and_then (followed_within 0 ms) s ≡ None
followed-none ms None = refl
followed-none ms (Some x) = refl
