-- What the steps from a cursor read, and the places that they lead to.
use Rattle.std.proofs.Common.{◌≡◌, ℕ, zero, suc, ◌+◌, ◌-◌, ◌<◌, ◌≤◌, List, [], ◌∷◌, length, refl, ap, sym, ◌∙◌, arith, Some, None, slice_get}
use Rattle.rowan_green.specs.Forest.{Tree}
use Rattle.rowan_green.specs.Leaf.{Leaf}
use Rattle.rowan_green.specs.Term.{Term, children_of, term_len}
use Rattle.rowan_green.specs.declared.utility_types.NodeOrToken.TheVariants.{Node, Token}
use Rattle.rowan.specs.Place.{Place, above, below, index_of, term_at, terms_below, children_in, text_in, start_of, end_of}
use Rattle.rowan.specs.Around.{cursor_in, cursor_at, children_from, children_before, siblings_after, siblings_before, nodes, first}
use Rattle.rowan.proofs.Places.{child_of, next_start, start_within, last_end}
use Rattle.rowan.proofs.Lists.{first_from, from_here, before_here, none_from, number_within}

-- a child of the green node is below the cursor
pub child_term : (p : Place) (g : Tree) (i : ℕ) (e : Term) → term_at p ≡ Some (Node g) → Some e ≡ slice_get (children_of g) i → term_at (below p i) ≡ Some e
child_term p g i e h k = ap (λ o. slice_get (children_in o) i) h ∙ sym k

-- where a child begins that ends where the next one begins
pub start_before : (p : Place) (g : Tree) (i n len end : ℕ) (e : Term) → term_at p ≡ Some (Node g) → Some e ≡ slice_get (children_of g) i → len ≡ term_len e → n ≡ i + 1 → end ≡ start_of (below p n) → (len ≤ end) × (end - len ≡ start_of (below p i))
start_before p g i n len end e h k l m b =
    let t : length (text_in (term_at (below p i))) ≡ term_len e = ap (λ o. length (text_in o)) (child_term p g i e h k) in
    let s : start_of (below p n) ≡ end_of (below p i) = ap (λ x. start_of (below p x)) m ∙ next_start p i in
    (omega (arith, t, s), omega (arith, t, s))

-- the last child ends where its parent does
pub start_last : (p : Place) (g : Tree) (n end : ℕ) → term_at p ≡ Some (Node g) → n ≡ length (children_of g) → end ≡ end_of p → end ≡ start_of (below p n)
start_last p g n end h l e =
    let k : n ≡ length (terms_below p) = l ∙ sym (ap (λ o. length (children_in o)) h) in
    e ∙ sym (last_end p g h) ∙ ap (λ m. start_of (below p m)) (sym k)

pub count_is : (p : Place) (g : Tree) (n : ℕ) → term_at p ≡ Some (Node g) → n ≡ length (children_of g) → n ≡ length (terms_below p)
count_is p g n h l = l ∙ sym (ap (λ o. length (children_in o)) h)

module _ (q p : Place) (i : ℕ) (h : Some p ≡ above q) (k : i ≡ index_of q) where
  is_below : q ≡ below p i
  is_below = child_of q p h ∙ ap (below p) (sym k)

  -- the next sibling begins where a place ends
  pub start_next : (e : ℕ) → e ≡ end_of q → e ≡ start_of (below p (i + 1))
  start_next e l = l ∙ ap end_of is_below ∙ sym (next_start p i)

  pub start_here : (e : ℕ) → e ≡ start_of q → e ≡ start_of (below p i)
  start_here e l = l ∙ ap start_of is_below

  pub within_here : (x : Term) → term_at q ≡ Some x → i ≤ length (terms_below p)
  within_here x l =
      let n : i < length (terms_below p) = number_within p i x (sym (ap term_at is_below) ∙ l) in
      omega arith

  pub after_here : siblings_after q ≡ children_from p (i + 1)
  after_here = ap siblings_after is_below

  pub siblings_before_here : siblings_before q ≡ children_before p i
  siblings_before_here = ap siblings_before is_below

  pub next_here : cursor_at (below p (i + 1)) ≡ first (siblings_after q)
  next_here = sym (first_from p (i + 1)) ∙ ap first (sym after_here)

pub get_past : (es : List Term) (i : ℕ) → length es ≤ i → slice_get es i ≡ None
get_past [] i h = refl
get_past (e ∷ es) zero h = absurd (omega arith)
get_past (e ∷ es) (suc i) h = get_past es i (omega arith)

module _ (p : Place) (g : Tree) (i : ℕ) (h : term_at p ≡ Some (Node g)) where
  next_child : (e : Term) → Some e ≡ slice_get (children_of g) i → start_of (below p (i + 1)) ≡ start_of (below p i) + term_len e
  next_child e k = next_start p i ∙ ap (λ o. start_of (below p i) + length (text_in o)) (child_term p g i e h k)

  -- after a child the next one begins, within the parent
  pub over_child : (e : Term) (offset len : ℕ) → Some e ≡ slice_get (children_of g) i → len ≡ term_len e → offset ≡ start_of (below p i) → (offset + len ≡ start_of (below p (i + 1))) × (offset + len ≤ end_of p)
  over_child e offset len k l o = (omega (arith, next_child e k), omega (arith, next_child e k, start_within p (i + 1)))

  pub node_here : (e : Term) (t : Tree) → Some e ≡ slice_get (children_of g) i → e ≡ Node t → first (nodes (children_from p i)) ≡ Some (below p i)
  node_here e t k x =
      let c : cursor_at (below p i) ≡ Some (Node (below p i)) = ap (cursor_in (below p i)) (child_term p g i e h k ∙ ap Some x) in
      rw (from_here p i, c) refl

  pub token_here : (e : Term) (l : Leaf) → Some e ≡ slice_get (children_of g) i → e ≡ Token l → first (nodes (children_from p i)) ≡ first (nodes (children_from p (i + 1)))
  token_here e l k x =
      let c : cursor_at (below p i) ≡ Some (Token (below p i)) = ap (cursor_in (below p i)) (child_term p g i e h k ∙ ap Some x) in
      rw (from_here p i, c) refl

  pub none_here : None ≡ slice_get (children_of g) i → children_from p i ≡ []
  none_here k = none_from p (terms_below p) i i (ap (λ o. slice_get (children_in o) i) h ∙ sym k)

  pub none_past : (n : ℕ) → n ≡ length (children_of g) → n ≤ i → children_from p i ≡ []
  none_past n l m = none_from p (terms_below p) i i (get_past (terms_below p) i (rw (← count_is p g n h l) m))

  pub node_siblings_before : (e : Term) (t : Tree) → Some e ≡ slice_get (children_of g) i → e ≡ Node t → first (nodes (children_before p (i + 1))) ≡ Some (below p i)
  node_siblings_before e t k x =
      let c : cursor_at (below p i) ≡ Some (Node (below p i)) = ap (cursor_in (below p i)) (child_term p g i e h k ∙ ap Some x) in
      rw (before_here p i, c) refl

  pub token_siblings_before : (e : Term) (l : Leaf) → Some e ≡ slice_get (children_of g) i → e ≡ Token l → first (nodes (children_before p (i + 1))) ≡ first (nodes (children_before p i))
  token_siblings_before e l k x =
      let c : cursor_at (below p i) ≡ Some (Token (below p i)) = ap (cursor_in (below p i)) (child_term p g i e h k ∙ ap Some x) in
      rw (before_here p i, c) refl

  pub none_siblings_before : None ≡ slice_get (children_of g) i → children_before p (i + 1) ≡ children_before p i
  none_siblings_before k =
      let c : cursor_at (below p i) ≡ None = ap (λ o. cursor_in (below p i) (slice_get (children_in o) i)) h ∙ ap (cursor_in (below p i)) (sym k) in
      rw (before_here p i, c) refl

  pub none_start : None ≡ slice_get (children_of g) i → start_of (below p (i + 1)) ≡ start_of (below p i)
  none_start k =
      let t : length (text_in (term_at (below p i))) ≡ 0 = ap (λ o. length (text_in (slice_get (children_in o) i))) h ∙ ap (λ o. length (text_in o)) (sym k) in
      omega (arith, next_start p i, t)

within_get : (es : List Term) (i : ℕ) (e : Term) → Some e ≡ slice_get es i → i < length es
within_get [] i e h = absurd (cc)
within_get (x ∷ es) zero e h = omega arith
within_get (x ∷ es) (suc i) e h = let k = within_get es i e h in omega arith

pub number_below : (g : Tree) (i : ℕ) (e : Term) → Some e ≡ slice_get (children_of g) i → i < length (children_of g)
number_below g i e h = within_get (children_of g) i e h

pub token_len : (e : Term) (l : Leaf) → e ≡ Token l → term_len e ≡ length l.text
token_len e l h = ap term_len h
