-- A place that is not a root's is a child's.
use Rattle.std.proofs.Common.{◌≡◌, ℕ, ◌<◌, [], ◌∷◌, length, Some, None, ap, sym, ◌∙◌, slice_get}
use Rattle.std.proofs.lemmas.Option.{slice_get_within, same_Some, none-some}
use Rattle.rowan_green.specs.Forest.{Tree}
use Rattle.rowan_green.specs.Term.{Term, children_of}
use Rattle.rowan_green.specs.declared.utility_types.NodeOrToken.TheVariants.{Node}
use Rattle.rowan.specs.Place.{Place, above, term_by, children_in, index_of}
use Rattle.syntax_tree.specs.Element.{Way, Element, element_at, term_of}
use Rattle.syntax_tree.specs.Handle.{parent_of}

below_count : (n : ℕ) (t : Tree) (up : Way) (q : Element) (x : Term) (g : Tree)
    → parent_of (element_at n t up) ≡ Some q → term_by t up ≡ Some x → term_of q ≡ Some (Node g) → index_of (element_at n t up).place < length (children_of g)
below_count n t [] q x g is here there = absurd (none-some q is)
below_count n t (i ∷ up) q x g is here there =
    let above_is : term_by t up ≡ Some (Node g) = ap term_of (same_Some _ _ is) ∙ there in
    slice_get_within (children_of g) i x (ap (λ o. slice_get (children_in o) i) (sym above_is) ∙ here)

-- a child's number is below the count of its parent's children
pub index_of-below : (e q : Element) (x : Term) (g : Tree) → parent_of e ≡ Some q → term_of e ≡ Some x → term_of q ≡ Some (Node g) → index_of e.place < length (children_of g)
index_of-below e q x g is here there = below_count e.number e.place.root e.place.up q x g is here there

above_way : (t : Tree) (up : Way) (q : Place) → above (record { root = t; up = up }) ≡ Some q → up ≡ index_of (record { root = t; up = up }) ∷ q.up
above_way t [] q is = absurd (none-some q is)
above_way t (i ∷ up) q is = ap (λ p. i ∷ p.up) (same_Some _ _ is)

-- the up-path of a child is its index, followed by the up-path of its parent
pub up_from_above : (p q : Place) → above p ≡ Some q → p.up ≡ index_of p ∷ q.up
up_from_above p q is = above_way p.root p.up q is

above_root : (t : Tree) (up : Way) → above (record { root = t; up = up }) ≡ None → up ≡ []
above_root t [] is = λ i. []
above_root t (i ∷ up) is = absurd (none-some _ (sym is))

-- a place without a parent is a root's
pub up_from_root : (p : Place) → above p ≡ None → p.up ≡ []
up_from_root p is = above_root p.root p.up is
