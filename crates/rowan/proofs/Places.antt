-- Where children start and end.
use Rattle.std.proofs.Common.{◌≡◌, ℕ, zero, suc, ◌+◌, ◌<◌, ◌≤◌, ◌^◌, List, [], ◌∷◌, length, take, refl, ap, arith, length-append, add-one, take_all, Option, Some, None, slice_get}
use Rattle.rowan_green.specs.Forest.{Tree, forest_text, tree_text}
use Rattle.rowan_green.specs.Term.{Term, forest_of-terms, texts_of}
use Rattle.rowan_green.specs.declared.utility_types.NodeOrToken.TheVariants.{Node, Token}
use Rattle.rowan.specs.Place.{Place, above, below, index_of, first_number, term_at, terms_below, children_in, text_in, start_of, end_of}
use Rattle.rowan.specs.Sound.{Stands}

pub len_next : (es : List Term) (i : ℕ) → length (texts_of (take (suc i) es)) ≡ length (texts_of (take i es)) + length (text_in (slice_get es i))
len_next [] zero = omega arith
len_next [] (suc i) = omega arith
len_next (Node t ∷ es) zero = omega (arith, length-append (tree_text t) [])
len_next (Token l ∷ es) zero = omega (arith, length-append l.text [])
len_next (Node t ∷ es) (suc i) =
    omega (arith, len_next es i, length-append (tree_text t) (texts_of (take (suc i) es)), length-append (tree_text t) (texts_of (take i es)))
len_next (Token l ∷ es) (suc i) =
    omega (arith, len_next es i, length-append l.text (texts_of (take (suc i) es)), length-append l.text (texts_of (take i es)))

len_within : (es : List Term) (i : ℕ) → length (texts_of (take i es)) ≤ length (texts_of es)
len_within [] zero = omega arith
len_within [] (suc i) = omega arith
len_within (Node t ∷ es) zero = omega arith
len_within (Token l ∷ es) zero = omega arith
len_within (Node t ∷ es) (suc i) =
    omega (arith, len_within es i, length-append (tree_text t) (texts_of es), length-append (tree_text t) (texts_of (take i es)))
len_within (Token l ∷ es) (suc i) =
    omega (arith, len_within es i, length-append l.text (texts_of es), length-append l.text (texts_of (take i es)))

-- the text of a term is at least that of its children
len_children : (o : Option Term) → length (texts_of (children_in o)) ≤ length (text_in o)
len_children None = omega arith
len_children (Some (Node t)) = omega (arith, ap (λ f. length (forest_text f)) (forest_of-terms t.forest))
len_children (Some (Token l)) = omega arith

-- after a child begins the next one
pub next_start : (p : Place) (i : ℕ) → start_of (below p (i + 1)) ≡ end_of (below p i)
next_start p i = rw add-one (omega (arith, len_next (terms_below p) i))

-- no child begins after the end of its parent, or before its beginning
pub start_within : (p : Place) (i : ℕ) → start_of (below p i) ≤ end_of p
start_within p i = omega (arith, len_within (terms_below p) i, len_children (term_at p))

pub end_within : (p : Place) (i : ℕ) → end_of (below p i) ≤ end_of p
end_within p i = omega (arith, next_start p i, start_within p (i + 1))

-- where the last child ends, its parent ends
pub last_end : (p : Place) (t : Tree) → term_at p ≡ Some (Node t) → start_of (below p (length (terms_below p))) ≡ end_of p
last_end p t h =
    omega (arith, ap (λ es. length (texts_of es)) (take_all (length (terms_below p)) (terms_below p) (omega arith)), ap (λ o. length (texts_of (children_in o))) h, ap (λ o. length (text_in o)) h, ap (λ f. length (forest_text f)) (forest_of-terms t.forest))

-- the child at index `i` is at its place, with its offset
pub child_stands : (p : Place) (i : ℕ) (e : Term) (offset : ℕ) → end_of p < 2 ^ 32 → term_at (below p i) ≡ Some e → offset ≡ start_of (below p i) → Stands (below p i) e offset
child_stands p i e offset f h o = record { term = h; start = o; fits = omega (arith, end_within p i, f) }

-- a place with a parent is that of a child
child_by : (root : Tree) (up : List ℕ) (p : Place) → Some p ≡ above (record { root = root; up = up }) → up ≡ first_number up ∷ p.up
child_by root [] p h = absurd (cc)
child_by root (i ∷ up) p h = let e : p ≡ record { root = root; up = up } = cc in rw e refl

root_by : (root : Tree) (up : List ℕ) (p : Place) → Some p ≡ above (record { root = root; up = up }) → root ≡ p.root
root_by root [] p h = absurd (cc)
root_by root (i ∷ up) p h = let e : p ≡ record { root = root; up = up } = cc in rw e refl

pub child_of : (q p : Place) → Some p ≡ above q → q ≡ below p (index_of q)
child_of q p h = λ i. record { root = root_by q.root q.up p h i; up = child_by q.root q.up p h i }
