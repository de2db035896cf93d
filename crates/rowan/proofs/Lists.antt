-- The lists of children and siblings, step by step.
use Rattle.std.proofs.Common.{◌≡◌, ℕ, zero, suc, ◌+◌, ◌<◌, List, [], ◌∷◌, length, drop, refl, ap, sym, ◌∙◌, arith, add-one, Some, None, slice_get, IsSome}
use Rattle.std.specs.List.{cons_option}
use Rattle.rowan_green.specs.Forest.{Tree}
use Rattle.rowan_green.specs.Term.{Term}
use Rattle.rowan.specs.Place.{Place, above, below, term_at, terms_below}
use Rattle.rowan.specs.Around.{cursor_in, cursor_at, numbered, children_from, children_before, siblings_after, siblings_before, first}

-- the children from a number on: the child of that number, if there is one, and those from the next one on
list_from : (p : Place) (es : List Term) (i j : ℕ) → numbered p j (drop i es) ≡ cons_option (cursor_in (below p j) (slice_get es i)) (numbered p (j + 1) (drop (suc i) es))
list_from p [] zero j = refl
list_from p [] (suc i) j = refl
list_from p (e ∷ es) zero j = refl
list_from p (e ∷ es) (suc i) j = list_from p es i j

pub from_here : (p : Place) (i : ℕ) → children_from p i ≡ cons_option (cursor_at (below p i)) (children_from p (i + 1))
from_here p i = list_from p (terms_below p) i i ∙ ap (λ k. cons_option (cursor_at (below p i)) (numbered p (i + 1) (drop k (terms_below p)))) (sym (add-one i))

-- past the last child there is none
pub none_from : (p : Place) (es : List Term) (i j : ℕ) → slice_get es i ≡ None → numbered p j (drop i es) ≡ []
none_from p [] zero j h = refl
none_from p [] (suc i) j h = refl
none_from p (e ∷ es) zero j h = absurd (cc)
none_from p (e ∷ es) (suc i) j h = none_from p es i j h

first_list : (p : Place) (es : List Term) (i j : ℕ) → first (numbered p j (drop i es)) ≡ cursor_in (below p j) (slice_get es i)
first_list p [] zero j = refl
first_list p [] (suc i) j = refl
first_list p (e ∷ es) zero j = refl
first_list p (e ∷ es) (suc i) j = first_list p es i j

pub first_from : (p : Place) (i : ℕ) → first (children_from p i) ≡ cursor_at (below p i)
first_from p i = first_list p (terms_below p) i i

-- one child further back
pub before_here : (p : Place) (i : ℕ) → children_before p (i + 1) ≡ cons_option (cursor_at (below p i)) (children_before p i)
before_here p i = rw add-one refl

get_within : (es : List Term) (i : ℕ) → i < length es → IsSome (slice_get es i)
get_within [] i h = absurd (omega arith)
get_within (e ∷ es) zero h = refl
get_within (e ∷ es) (suc i) h = get_within es i (omega arith)

within_get : (es : List Term) (i : ℕ) (e : Term) → slice_get es i ≡ Some e → i < length es
within_get [] i e h = absurd (cc)
within_get (x ∷ es) zero e h = omega arith
within_get (x ∷ es) (suc i) e h = let k = within_get es i e h in omega arith

-- the index of a child is below the number of children
pub number_within : (p : Place) (i : ℕ) (e : Term) → term_at (below p i) ≡ Some e → i < length (terms_below p)
number_within p i e h = within_get (terms_below p) i e h

-- and there is a child at each index below that number
pub stands_within : (p : Place) (i : ℕ) → i < length (terms_below p) → IsSome (term_at (below p i))
stands_within p i h = get_within (terms_below p) i h

after_root : (root : Tree) (up : List ℕ) → None ≡ above (record { root = root; up = up }) → siblings_after (record { root = root; up = up }) ≡ []
after_root root [] h = refl
after_root root (i ∷ up) h = absurd (cc)

-- the root has no siblings
pub after_top : (q : Place) → None ≡ above q → siblings_after q ≡ []
after_top q h = after_root q.root q.up h

before_root : (root : Tree) (up : List ℕ) → None ≡ above (record { root = root; up = up }) → siblings_before (record { root = root; up = up }) ≡ []
before_root root [] h = refl
before_root root (i ∷ up) h = absurd (cc)

pub before_top : (q : Place) → None ≡ above q → siblings_before q ≡ []
before_top q h = before_root q.root q.up h
