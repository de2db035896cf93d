-- The element at an up-path, level by level.
use Rattle.std.proofs.Common.{◌≡◌, ℕ, suc, ◌+◌, ◌-◌, ◌<◌, ◌≤◌, [], ◌∷◌, ◌++◌, length, take, refl, ap, sym, ◌∙◌, arith, append_assoc, get_or, Option, Some, None, option_map, slice_get}
use Rattle.std.proofs.Math.Seq.{take-suc}
use Rattle.std.proofs.lemmas.Option.{slice_get_past, same_Some, none-some}
use Rattle.rowan_green.specs.Forest.{Tree}
use Rattle.rowan_green.specs.Term.{Term}
use Rattle.rowan_green.specs.declared.utility_types.NodeOrToken.TheVariants.{Node, Token}
use Rattle.rowan.specs.Place.{Place, term_by, children_in}
use Rattle.rowan.specs.Around.{cursor_of, cursor_in}
use Rattle.syntax_tree.specs.Element.{Way, Element, element_at}
use Rattle.syntax_tree.specs.Handle.{element_of, with_number, with_cursor, standing_at}

cursor_stands : (n : ℕ) (p : Place) (e : Term) → element_of (with_cursor n (cursor_of p e)) ≡ with_number n p
cursor_stands n p (Node t) = refl
cursor_stands n p (Token l) = refl

-- the element at a place, through its cursor
pub by_cursor : (n : ℕ) (p : Place) (o : Option Term) → option_map element_of (option_map (with_cursor n) (cursor_in p o)) ≡ option_map (λ _. with_number n p) o
by_cursor n p None = refl
by_cursor n p (Some e) = ap Some (cursor_stands n p e)

one_less : (w up : Way) (n : ℕ) → n < length w → take n w ++ get_or w n 0 ∷ up ≡ take (suc n) w ++ up
one_less w up n h = sym (ap (λ (v : Way). v ++ up) (take-suc w n 0 h) ∙ append_assoc (take n w) (get_or w n 0 ∷ []) up)

-- the last of the remaining indices joins those that are done
pub one_further : (w up : Way) (left : ℕ) → 0 < left → left ≤ length w → take (left - 1) w ++ get_or w (left - 1) 0 ∷ up ≡ take left w ++ up
one_further w up left some within =
    let next : suc (left - 1) ≡ left = omega arith in
    one_less w up (left - 1) (omega arith) ∙ ap (λ (n : ℕ). take n w ++ up) next

-- if there is no element, there is none below
pub nothing_below : (t : Tree) (front up : Way) → term_by t up ≡ None → term_by t (front ++ up) ≡ None
nothing_below t [] up h = h
nothing_below t (i ∷ front) up h =
    ap (λ (o : Option Term). slice_get (children_in o) i) (nothing_below t front up h) ∙ slice_get_past [] i (omega arith)

-- the element at an up-path has that up-path
stands_is : (e : Element) (w : Way) (o : Option Term) (x : Element) → option_map (λ _. element_at e.number e.place.root w) o ≡ Some x → x ≡ element_at e.number e.place.root w
stands_is e w None x h = absurd (none-some x h)
stands_is e w (Some t) x h = sym (same_Some _ _ h)

pub standing_is : (e : Element) (w : Way) (x : Element) → standing_at e w ≡ Some x → x ≡ element_at e.number e.place.root w
standing_is e w x h = stands_is e w (term_by e.place.root w) x h

-- the element at an up-path depends on the tree alone
pub one_tree : (a b : Element) (w : Way) → a.number ≡ b.number → a.place.root ≡ b.place.root → standing_at a w ≡ standing_at b w
one_tree a b w n t = λ i. standing_at (element_at (n i) (t i) []) w

none_stands : (e : Element) (o : Option Term) → option_map (λ _. e) o ≡ None → o ≡ None
none_stands e None h = refl
none_stands e (Some t) h = absurd (none-some e (sym h))

-- if there is no element at an up-path, there is none below it
pub none_further : (e : Element) (front up w : Way) → front ++ up ≡ w → standing_at e up ≡ None → standing_at e w ≡ None
none_further e front up w is h =
    ap (λ (v : Way). standing_at e v) (sym is)
    ∙ ap (option_map (λ _. element_at e.number e.place.root (front ++ up))) (nothing_below e.place.root front up (none_stands (element_at e.number e.place.root up) (term_by e.place.root up) h))
