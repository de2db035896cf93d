-- The tokens below a place stand one after the other, and the way down by ranges leads to the one that has a byte.
use Rattle.std.proofs.Common.{◌≡◌, ℕ, zero, suc, ◌+◌, ◌<◌, ◌≤◌, List, [], ◌∷◌, ◌++◌, length, drop, refl, ap, sym, ◌∙◌, arith, add-one, length-append, append-nil, Option, Some, None, slice_get, Bool, true, false, nat_le, cond, ◌⊎◌, inl, inr}
use Rattle.std.specs.List.{filter}
use Rattle.std.proofs.lemmas.Bool.{and_from, and_left, and_right, le-leb, lt-leb, leb-true, leb-false, and_cases, and_parts}
use Rattle.std.proofs.lemmas.List.Elements.{filter-append}
use Rattle.rowan_green.specs.Forest.{Forest, empty, node, leaf, Tree, tree_text, forest_text}
use Rattle.rowan_green.specs.Either.{token_part}
use Rattle.rowan_green.specs.Term.{Term, terms, forest_of, forest_of-terms, terms-forest_of, texts_of, text_of}
use Rattle.rowan_green.specs.declared.utility_types.NodeOrToken.TheVariants.{Node, Token}
use Rattle.rowan.specs.Place.{Place, below, term_at, terms_below, children_in, text_in, start_of, end_of}
use Rattle.rowan.specs.Around.{Cursor, numbered, tokens, first}
use Rattle.rowan.specs.Walk.{walk_forest, entered}
use Rattle.rowan.specs.Leaves.{tokens_in}
use Rattle.rowan.specs.Ranges.{holds, child_at_range, LeadsTo, here, token, down}
use Rattle.rowan.specs.Touching.{has_byte, with_byte}
use Rattle.rowan.specs.declared.utility_types.WalkEvent.TheVariants.{Leave}
use Rattle.rowan.proofs.Walks.{walk_inside}
use Rattle.rowan.proofs.Leaves.{entered-append}
use Rattle.rowan.proofs.Places.{next_start}

-- ---- lists of places that stand one after the other

abbrev pub Chain : ℕ → List Place → ℕ → Type 0
Chain a [] b = a ≡ b
Chain a (q ∷ qs) b = (start_of q ≡ a) × Chain (end_of q) qs b

chain_at : (a b c d : ℕ) (qs : List Place) → a ≡ c → b ≡ d → Chain a qs b → Chain c qs d
chain_at a b c d [] e f h = sym e ∙ h ∙ f
chain_at a b c d (q ∷ qs) e f h = (h.0 ∙ e, chain_at (end_of q) b (end_of q) d qs refl f h.1)

chain_append : (a b c : ℕ) (ps qs : List Place) → Chain a ps b → Chain b qs c → Chain a (ps ++ qs) c
chain_append a b c [] qs h k = chain_at b c a c qs (sym h) refl k
chain_append a b c (p ∷ ps) qs h k = (h.0, chain_append (end_of p) b c ps qs h.1 k)

pub ordered : (p : Place) → start_of p ≤ end_of p
ordered p = omega arith

chain_up : (a b : ℕ) (qs : List Place) → Chain a qs b → a ≤ b
chain_up a b [] h = omega (arith, h)
chain_up a b (q ∷ qs) h = omega (arith, h.0, ordered q, chain_up (end_of q) b qs h.1)

pub picked : {A : Type 0} (t : A → Bool) (x : A) (xs : List A) → t x ≡ true → filter t (x ∷ xs) ≡ x ∷ filter t xs
picked t x xs h = ap (λ b. cond b (x ∷ filter t xs) (filter t xs)) h

pub passed : {A : Type 0} (t : A → Bool) (x : A) (xs : List A) → t x ≡ false → filter t (x ∷ xs) ≡ filter t xs
passed t x xs h = ap (λ b. cond b (x ∷ filter t xs) (filter t xs)) h

-- ---- which tokens have a byte

pub has_it : (k : ℕ) (q : Place) → start_of q ≤ k → k < end_of q → has_byte k q ≡ true
has_it k q a b = and_from _ _ (le-leb (start_of q) k a) (le-leb (k + 1) (end_of q) (omega arith))

pub begins_later : (k : ℕ) (q : Place) → k < start_of q → has_byte k q ≡ false
begins_later k q a = and_left _ _ (lt-leb (start_of q) k a)

pub ends_before : (k : ℕ) (q : Place) → end_of q ≤ k → has_byte k q ≡ false
ends_before k q a = and_right _ _ (lt-leb (k + 1) (end_of q) (omega arith))

pub none_after : (k a b : ℕ) (qs : List Place) → Chain a qs b → k < a → filter (has_byte k) qs ≡ []
none_after k a b [] h l = refl
none_after k a b (q ∷ qs) h l =
    passed (has_byte k) q qs (begins_later k q (omega (arith, h.0)))
    ∙ none_after k (end_of q) b qs h.1 (omega (arith, h.0, ordered q))

pub none_before : (k a b : ℕ) (qs : List Place) → Chain a qs b → b ≤ k → filter (has_byte k) qs ≡ []
none_before k a b [] h l = refl
none_before k a b (q ∷ qs) h l =
    passed (has_byte k) q qs (ends_before k q (omega (arith, chain_up (end_of q) b qs h.1)))
    ∙ none_before k (end_of q) b qs h.1 l

-- ---- the tokens of a forest stand one after the other

pub drop_head : (es rest : List Term) (e : Term) (i : ℕ) → drop i es ≡ e ∷ rest → slice_get es i ≡ Some e
drop_head [] rest e zero h = absurd (cc)
drop_head [] rest e (suc i) h = absurd (cc)
drop_head (x ∷ es) rest e zero h = cc
drop_head (x ∷ es) rest e (suc i) h = drop_head es rest e i h

drop_suc : (es rest : List Term) (e : Term) (i : ℕ) → drop i es ≡ e ∷ rest → drop (suc i) es ≡ rest
drop_suc [] rest e zero h = absurd (cc)
drop_suc [] rest e (suc i) h = absurd (cc)
drop_suc (x ∷ es) rest e zero h = cc
drop_suc (x ∷ es) rest e (suc i) h = drop_suc es rest e i h

pub drop_next : (es rest : List Term) (e : Term) (i : ℕ) → drop i es ≡ e ∷ rest → drop (i + 1) es ≡ rest
drop_next es rest e i h = rw add-one (drop_suc es rest e i h)

-- the tokens of a forest whose first term has this number
abbrev leaves : Place → ℕ → Forest → List Place
leaves p i f = tokens (entered (walk_forest p i f))

pub ends_at : (p : Place) (i : ℕ) (e : Term) → slice_get (terms_below p) i ≡ Some e → end_of (below p i) ≡ start_of (below p i) + length (text_of e)
ends_at p i e h = ap (λ o. start_of (below p i) + length (text_in o)) h

pub below_inside : (p : Place) (i k : ℕ) (g : Forest) → slice_get (terms_below p) i ≡ Some (Node (record { kind = k; forest = g })) → terms_below (below p i) ≡ terms g
below_inside p i k g h = ap children_in h

pub first_start : (p : Place) → start_of (below p 0) ≡ start_of p
first_start p = omega arith

leaves_chain : (p : Place) (i : ℕ) (f : Forest) → drop i (terms_below p) ≡ terms f → Chain (start_of (below p i)) (leaves p i f) (start_of (below p i) + length (forest_text f))
leaves_chain p i empty h = omega arith
leaves_chain p i (node k g r) h =
    let e : Term = Node (record { kind = k; forest = g }) in
    let s : slice_get (terms_below p) i ≡ Some e = drop_head (terms_below p) (terms r) e i h in
    let n : drop (i + 1) (terms_below p) ≡ terms r = drop_next (terms_below p) (terms r) e i h in
    let inner = leaves_chain (below p i) 0 g (below_inside p i k g s) in
    let outer = leaves_chain p (i + 1) r n in
    let t : start_of (below p (i + 1)) ≡ start_of (below p i) + length (forest_text g) = next_start p i ∙ ends_at p i e s in
    let x = chain_at _ _ (start_of (below p i)) (start_of (below p (i + 1))) (leaves (below p i) 0 g) (first_start (below p i)) (omega (arith, first_start (below p i), t)) inner in
    let y = chain_at _ _ (start_of (below p (i + 1))) (start_of (below p i) + length (forest_text g ++ forest_text r)) (leaves p (i + 1) r) refl (omega (arith, t, length-append (forest_text g) (forest_text r))) outer in
    rw (entered-append (walk_forest (below p i) 0 g) (Leave (Node (below p i)) ∷ walk_forest p (i + 1) r)) (chain_append (start_of (below p i)) (start_of (below p (i + 1))) _ (leaves (below p i) 0 g) (leaves p (i + 1) r) x y)
leaves_chain p i (leaf l r) h =
    let s : slice_get (terms_below p) i ≡ Some (Token l) = drop_head (terms_below p) (terms r) (Token l) i h in
    let n : drop (i + 1) (terms_below p) ≡ terms r = drop_next (terms_below p) (terms r) (Token l) i h in
    let outer = leaves_chain p (i + 1) r n in
    let t : end_of (below p i) ≡ start_of (below p i) + length l.text = ends_at p i (Token l) s in
    (refl, chain_at _ _ (end_of (below p i)) (start_of (below p i) + length (l.text ++ forest_text r)) (leaves p (i + 1) r) (next_start p i) (omega (arith, next_start p i, t, length-append l.text (forest_text r))) outer)

-- the tokens below a node, from its start to its end
pub tokens_chain : (p : Place) (t : Tree) → term_at p ≡ Some (Node t) → Chain (start_of p) (tokens_in p) (end_of p)
tokens_chain p t h =
    let f : Forest = forest_of (terms_below p) in
    let len : length (forest_text f) ≡ length (tree_text t) = ap (λ o. length (texts_of (children_in o))) h ∙ ap (λ g. length (forest_text g)) (forest_of-terms t.forest) in
    let e : end_of p ≡ start_of p + length (tree_text t) = ap (λ o. start_of p + length (text_in o)) h in
    chain_at _ _ (start_of p) (end_of p) (tokens_in p) (first_start p) (omega (arith, first_start p, len, e)) (leaves_chain p 0 f (sym (terms-forest_of (terms_below p))))

-- ---- the way down

-- the token with a byte below what was found, if anything was
abbrev found : ℕ → Option Cursor → Option Place
found k None = None
found k (Some (Node q)) = first (with_byte k q)
found k (Some (Token q)) = Some q

first-append-nil : (xs ys : List Place) → ys ≡ [] → first (xs ++ ys) ≡ first xs
first-append-nil xs ys h = ap (λ zs. first (xs ++ zs)) h ∙ ap first (append-nil xs)

module _ (k : ℕ) where
  split : (p : Place) (i n : ℕ) (g r : Forest) → filter (has_byte k) (leaves p i (node n g r)) ≡ filter (has_byte k) (leaves (below p i) 0 g) ++ filter (has_byte k) (leaves p (i + 1) r)
  split p i n g r =
      ap (filter (has_byte k)) (entered-append (walk_forest (below p i) 0 g) (Leave (Node (below p i)) ∷ walk_forest p (i + 1) r))
      ∙ filter-append (has_byte k) (leaves (below p i) 0 g) (leaves p (i + 1) r)

  outside : (p : Place) (a b : ℕ) (qs : List Place) → Chain a qs b → a ≡ start_of p → b ≡ end_of p → has_byte k p ≡ false → filter (has_byte k) qs ≡ []
  outside p a b qs h e f t = outside_by (and_cases (nat_le (start_of p) k) (nat_le (k + 1) (end_of p)) t)
    where
      outside_by : (nat_le (start_of p) k ≡ false) ⊎ (nat_le (k + 1) (end_of p) ≡ false) → filter (has_byte k) qs ≡ []
      outside_by (inl x) = none_after k a b qs h (omega (arith, leb-false (start_of p) k x, e))
      outside_by (inr x) = none_before k a b qs h (omega (arith, leb-false (k + 1) (end_of p) x, f))

  in_forest : (p : Place) (i : ℕ) (f : Forest) → drop i (terms_below p) ≡ terms f → first (filter (has_byte k) (leaves p i f)) ≡ found k (first (filter (holds k (k + 1)) (numbered p i (terms f))))
  in_forest p i empty h = refl
  in_forest p i (node n g r) h =
      in_node (in_forest p (i + 1) r (drop_next (terms_below p) (terms r) (Node (record { kind = n; forest = g })) i h)) (has_byte k (below p i)) refl
    where
      e : Term
      e = Node (record { kind = n; forest = g })

      s : slice_get (terms_below p) i ≡ Some e
      s = drop_head (terms_below p) (terms r) e i h

      m : drop (i + 1) (terms_below p) ≡ terms r
      m = drop_next (terms_below p) (terms r) e i h

      inner : Chain (start_of (below (below p i) 0)) (leaves (below p i) 0 g) (start_of (below (below p i) 0) + length (forest_text g))
      inner = leaves_chain (below p i) 0 g (below_inside p i n g s)

      outer : Chain (start_of (below p (i + 1))) (leaves p (i + 1) r) (start_of (below p (i + 1)) + length (forest_text r))
      outer = leaves_chain p (i + 1) r m

      in_node : (first (filter (has_byte k) (leaves p (i + 1) r)) ≡ found k (first (filter (holds k (k + 1)) (numbered p (i + 1) (terms r))))) → (b : Bool) → has_byte k (below p i) ≡ b → first (filter (has_byte k) (leaves p i (node n g r))) ≡ found k (first (filter (holds k (k + 1)) (numbered p i (terms (node n g r)))))
      in_node ih true t =
          ap first (split p i n g r)
          ∙ first-append-nil (filter (has_byte k) (leaves (below p i) 0 g)) (filter (has_byte k) (leaves p (i + 1) r)) (none_after k _ _ (leaves p (i + 1) r) outer (omega (arith, next_start p i, leb-true (k + 1) (end_of (below p i)) ((and_parts (nat_le (start_of (below p i)) k) (nat_le (k + 1) (end_of (below p i))) t).1))))
          ∙ ap (λ w. first (filter (has_byte k) (tokens (entered w)))) (sym (walk_inside p i (record { kind = n; forest = g }) s))
          ∙ sym (ap (λ xs. found k (first xs)) (picked (holds k (k + 1)) (Node (below p i)) (numbered p (i + 1) (terms r)) t))
      in_node ih false t =
          ap first (split p i n g r)
          ∙ ap (λ xs. first (xs ++ filter (has_byte k) (leaves p (i + 1) r))) (outside (below p i) _ _ (leaves (below p i) 0 g) inner (first_start (below p i)) (omega (arith, first_start (below p i), ends_at p i e s)) t)
          ∙ ih
          ∙ sym (ap (λ xs. found k (first xs)) (passed (holds k (k + 1)) (Node (below p i)) (numbered p (i + 1) (terms r)) t))
  in_forest p i (leaf l r) h = in_leaf (in_forest p (i + 1) r (drop_next (terms_below p) (terms r) (Token l) i h)) (has_byte k (below p i)) refl
    where
      in_leaf : (first (filter (has_byte k) (leaves p (i + 1) r)) ≡ found k (first (filter (holds k (k + 1)) (numbered p (i + 1) (terms r))))) → (b : Bool) → has_byte k (below p i) ≡ b → first (filter (has_byte k) (leaves p i (leaf l r))) ≡ found k (first (filter (holds k (k + 1)) (numbered p i (terms (leaf l r)))))
      in_leaf ih true t =
          ap first (picked (has_byte k) (below p i) (leaves p (i + 1) r) t)
          ∙ sym (ap (λ xs. found k (first xs)) (picked (holds k (k + 1)) (Token (below p i)) (numbered p (i + 1) (terms r)) t))
      in_leaf ih false t =
          ap first (passed (has_byte k) (below p i) (leaves p (i + 1) r) t)
          ∙ ih
          ∙ sym (ap (λ xs. found k (first xs)) (passed (holds k (k + 1)) (Token (below p i)) (numbered p (i + 1) (terms r)) t))

  in_child : (p : Place) → first (with_byte k p) ≡ found k (child_at_range k (k + 1) p)
  in_child p =
      in_forest p 0 (forest_of (terms_below p)) (sym (terms-forest_of (terms_below p)))
      ∙ ap (λ es. found k (first (filter (holds k (k + 1)) (numbered p 0 es)))) (terms-forest_of (terms_below p))

  -- the way down leads to the token with the byte, or to a node where there is none
  pub led : (p : Place) (c : Cursor) → LeadsTo k (k + 1) p c → first (with_byte k p) ≡ token_part c
  led p c (here h) = in_child p ∙ ap (found k) h
  led p c (token h) = in_child p ∙ ap (found k) h
  led p c (down {q = q} h r) = in_child p ∙ ap (found k) h ∙ led q c r
