-- The search for a node by its range: only below nodes that contain it.
use Rattle.std.proofs.Common.{◌≡◌, ℕ, ◌+◌, ◌≤◌, List, [], ◌∷◌, ◌++◌, length, drop, refl, ap, sym, ◌∙◌, arith, length-append, append-nil, Option, Some, None, slice_get, Bool, true, false, ◌&&◌, nat_le, nat_eq, cond, option_map}
use Rattle.std.specs.List.{filter, cons_option}
use Rattle.std.proofs.lemmas.Bool.{and_from, and_parts, eqb-true, le-leb, false_from_ne_true, both_ways}
use Rattle.std.proofs.lemmas.List.Elements.{filter-append}
use Rattle.rowan_green.specs.Forest.{Forest, empty, node, leaf, Tree, forest_text}
use Rattle.rowan_green.specs.Either.{node_part}
use Rattle.rowan_green.specs.Term.{Term, terms, forest_of, forest_of-terms, terms-forest_of, children_of}
use Rattle.rowan_green.specs.declared.utility_types.NodeOrToken.TheVariants.{Node, Token}
use Rattle.rowan.specs.Place.{Place, below, term_at, terms_below, index_of, start_of, end_of}
use Rattle.rowan.specs.Around.{Cursor, cursor_of, cursor_in, numbered, children_from, nodes, first}
use Rattle.rowan.specs.Walk.{Event, walk_forest, walk_from, entered_nodes}
use Rattle.rowan.specs.Pointer.{is_at, spans, nodes_in, first_in}
use Rattle.rowan.specs.declared.utility_types.WalkEvent.TheVariants.{Enter, Leave}
use Rattle.rowan.proofs.Walks.{walk_inside}
use Rattle.rowan.proofs.Places.{next_start}
use Rattle.rowan.proofs.Lists.{from_here}
use Rattle.rowan.proofs.Steps.{child_term}
use Rattle.rowan.proofs.Touching.{picked, passed, drop_head, drop_next, below_inside, ends_at, first_start}

entered_nodes-append : (v w : List Event) → entered_nodes (v ++ w) ≡ entered_nodes v ++ entered_nodes w
entered_nodes-append [] w = refl
entered_nodes-append (Enter (Node p) ∷ v) w = ap (λ xs. p ∷ xs) (entered_nodes-append v w)
entered_nodes-append (Enter (Token p) ∷ v) w = entered_nodes-append v w
entered_nodes-append (Leave c ∷ v) w = entered_nodes-append v w

-- the nodes at and below the children from a number on
abbrev pub nodes_from : Place → ℕ → List Place
nodes_from p i = entered_nodes (walk_from p i)

abbrev nodes_of : Place → ℕ → Forest → List Place
nodes_of p i f = entered_nodes (walk_forest p i f)

pub nodes_here : (p : Place) → nodes_in p ≡ p ∷ nodes_from p 0
nodes_here p = ap (λ xs. p ∷ xs) (entered_nodes-append (walk_from p 0) (Leave (Node p) ∷ []) ∙ append-nil (nodes_from p 0))

-- a node of this kind and range has the range
pub has_range : {K : Type 0} (same : K → K → Bool) (from_raw : ℕ → K) (k : K) (a b : ℕ) (q : Place) → is_at same from_raw k a b q ≡ true → (start_of q ≡ a) × (end_of q ≡ b)
has_range same from_raw k a b q h =
    let x = and_parts (nat_eq (start_of q) a) (nat_eq (end_of q) b) ((and_parts _ _ h).1) in
    (eqb-true (start_of q) a x.0, eqb-true (end_of q) b x.1)

-- a test that only nodes of one range pass
module _ (t : Place → Bool) (a b : ℕ) (only : (q : Place) → t q ≡ true → (start_of q ≡ a) × (end_of q ≡ b)) where
  split : (p : Place) (i n : ℕ) (g r : Forest) → filter t (nodes_of p i (node n g r)) ≡ filter t (below p i ∷ nodes_of (below p i) 0 g) ++ filter t (nodes_of p (i + 1) r)
  split p i n g r =
      ap (λ xs. filter t (below p i ∷ xs)) (entered_nodes-append (walk_forest (below p i) 0 g) (Leave (Node (below p i)) ∷ walk_forest p (i + 1) r))
      ∙ filter-append t (below p i ∷ nodes_of (below p i) 0 g) (nodes_of p (i + 1) r)

  -- nothing passes that does not contain the range
  not_one : (q : Place) → (start_of q ≤ a → b ≤ end_of q → ⊥) → t q ≡ false
  not_one q h = false_from_ne_true (t q) (λ e. let o = only q e in h (omega (arith, o.0)) (omega (arith, o.1)))

  none_of : (p : Place) (i : ℕ) (f : Forest) → drop i (terms_below p) ≡ terms f → (start_of (below p i) ≤ a → b ≤ start_of (below p i) + length (forest_text f) → ⊥) → filter t (nodes_of p i f) ≡ []
  none_of p i empty h k = refl
  none_of p i (node n g r) h k =
      let e : Term = Node (record { kind = n; forest = g }) in
      let s : slice_get (terms_below p) i ≡ Some e = drop_head (terms_below p) (terms r) e i h in
      let m : drop (i + 1) (terms_below p) ≡ terms r = drop_next (terms_below p) (terms r) e i h in
      let l : length (forest_text g ++ forest_text r) ≡ length (forest_text g) + length (forest_text r) = length-append (forest_text g) (forest_text r) in
      let z : end_of (below p i) ≡ start_of (below p i) + length (forest_text g) = ends_at p i e s in
      let here : t (below p i) ≡ false = not_one (below p i) (λ x y. k x (omega (arith, z, l))) in
      let inner : filter t (nodes_of (below p i) 0 g) ≡ [] = none_of (below p i) 0 g (below_inside p i n g s) (λ x y. k (omega (arith, first_start (below p i))) (omega (arith, first_start (below p i), l))) in
      let outer : filter t (nodes_of p (i + 1) r) ≡ [] = none_of p (i + 1) r m (λ x y. k (omega (arith, next_start p i, z)) (omega (arith, next_start p i, z, l))) in
      split p i n g r
      ∙ ap (λ xs. xs ++ filter t (nodes_of p (i + 1) r)) (passed t (below p i) (nodes_of (below p i) 0 g) here ∙ inner) ∙ outer
  none_of p i (leaf x r) h k =
      let s : slice_get (terms_below p) i ≡ Some (Token x) = drop_head (terms_below p) (terms r) (Token x) i h in
      let m : drop (i + 1) (terms_below p) ≡ terms r = drop_next (terms_below p) (terms r) (Token x) i h in
      let l : length (x.text ++ forest_text r) ≡ length x.text + length (forest_text r) = length-append x.text (forest_text r) in
      let z : end_of (below p i) ≡ start_of (below p i) + length x.text = ends_at p i (Token x) s in
      none_of p (i + 1) r m (λ u v. k (omega (arith, next_start p i, z)) (omega (arith, next_start p i, z, l)))

  -- what passes at and below the children from a number on, the first of them that contains the range being known
  abbrev passing : Place → Option Place → List Place
  passing p None = []
  passing p (Some q) = filter t (nodes_in q) ++ filter t (nodes_from p (index_of q + 1))

  rest_is : (p : Place) (i : ℕ) (r : Forest) → drop i (terms_below p) ≡ terms r → nodes_of p i r ≡ nodes_from p i
  rest_is p i r m = ap (nodes_of p i) (sym (forest_of-terms r) ∙ ap forest_of (sym m))

  by_forest : (p : Place) (i : ℕ) (f : Forest) → drop i (terms_below p) ≡ terms f → filter t (nodes_of p i f) ≡ passing p (first (filter (spans a b) (nodes (numbered p i (terms f)))))
  by_forest p i empty h = refl
  by_forest p i (node n g r) h =
      by_node (by_forest p (i + 1) r (drop_next (terms_below p) (terms r) (Node (record { kind = n; forest = g })) i h)) (spans a b (below p i)) refl
    where
      e : Term
      e = Node (record { kind = n; forest = g })

      s : slice_get (terms_below p) i ≡ Some e
      s = drop_head (terms_below p) (terms r) e i h

      m : drop (i + 1) (terms_below p) ≡ terms r
      m = drop_next (terms_below p) (terms r) e i h

      inside : nodes_of (below p i) 0 g ≡ nodes_from (below p i) 0
      inside = ap entered_nodes (sym (walk_inside p i (record { kind = n; forest = g }) s))

      by_node : (filter t (nodes_of p (i + 1) r) ≡ passing p (first (filter (spans a b) (nodes (numbered p (i + 1) (terms r))))))
          → (x : Bool) → spans a b (below p i) ≡ x
          → filter t (nodes_of p i (node n g r)) ≡ passing p (first (filter (spans a b) (nodes (numbered p i (terms (node n g r))))))
      by_node ih true x =
          split p i n g r
          ∙ ap (λ xs. filter t (below p i ∷ xs) ++ filter t (nodes_of p (i + 1) r)) inside
          ∙ ap (λ xs. filter t xs ++ filter t (nodes_of p (i + 1) r)) (sym (nodes_here (below p i)))
          ∙ ap (λ xs. filter t (nodes_in (below p i)) ++ filter t xs) (rest_is p (i + 1) r m)
          ∙ sym (ap (λ xs. passing p (first xs)) (picked (spans a b) (below p i) (nodes (numbered p (i + 1) (terms r))) x))
      by_node ih false x =
          let z : end_of (below p i) ≡ start_of (below p i) + length (forest_text g) = ends_at p i e s in
          let no : start_of (below p i) ≤ a → b ≤ end_of (below p i) → ⊥ = (λ u v. both_ways (spans a b (below p i)) x (and_from _ _ (le-leb (start_of (below p i)) a u) (le-leb b (end_of (below p i)) v))) in
          let inner : filter t (nodes_of (below p i) 0 g) ≡ [] = none_of (below p i) 0 g (below_inside p i n g s) (λ u v. no (omega (arith, first_start (below p i))) (omega (arith, first_start (below p i), z))) in
          split p i n g r
          ∙ ap (λ xs. xs ++ filter t (nodes_of p (i + 1) r)) (passed t (below p i) (nodes_of (below p i) 0 g) (not_one (below p i) no) ∙ inner)
          ∙ ih
          ∙ sym (ap (λ xs. passing p (first xs)) (passed (spans a b) (below p i) (nodes (numbered p (i + 1) (terms r))) x))
  by_forest p i (leaf l r) h = by_forest p (i + 1) r (drop_next (terms_below p) (terms r) (Token l) i h)

  by_children : (p : Place) (i : ℕ) → filter t (nodes_from p i) ≡ passing p (first (filter (spans a b) (nodes (children_from p i))))
  by_children p i =
      by_forest p i (forest_of (drop i (terms_below p))) (sym (terms-forest_of (drop i (terms_below p))))
      ∙ ap (λ es. passing p (first (filter (spans a b) (nodes (numbered p i es))))) (terms-forest_of (drop i (terms_below p)))

  first-append : (xs ys : List Place) → None ≡ first xs → first (xs ++ ys) ≡ first ys
  first-append [] ys h = refl
  first-append (x ∷ xs) ys h = absurd (cc)

  first-some : (xs ys : List Place) (x : Place) → Some x ≡ first xs → first (xs ++ ys) ≡ Some x
  first-some [] ys x h = absurd (cc)
  first-some (y ∷ xs) ys x h = sym h

  pub none_left : (p : Place) (i : ℕ) → None ≡ first (filter (spans a b) (nodes (children_from p i))) → first (filter t (nodes_from p i)) ≡ None
  none_left p i h = ap first (by_children p i) ∙ ap (λ o. first (passing p o)) (sym h)

  pub found_below : (p q r : Place) (i : ℕ) → Some q ≡ first (filter (spans a b) (nodes (children_from p i))) → Some r ≡ first_in t q → first (filter t (nodes_from p i)) ≡ Some r
  found_below p q r i h k =
      ap first (by_children p i) ∙ ap (λ o. first (passing p o)) (sym h) ∙ first-some (filter t (nodes_in q)) (filter t (nodes_from p (index_of q + 1))) r k

  pub later_on : (p q : Place) (i : ℕ) → Some q ≡ first (filter (spans a b) (nodes (children_from p i))) → None ≡ first_in t q → first (filter t (nodes_from p i)) ≡ first (filter t (nodes_from p (index_of q + 1)))
  later_on p q i h k =
      ap first (by_children p i) ∙ ap (λ o. first (passing p o)) (sym h) ∙ first-append (filter t (nodes_in q)) (filter t (nodes_from p (index_of q + 1))) k

  pub at_node : (p : Place) → t p ≡ true → first_in t p ≡ Some p
  at_node p h = ap (λ xs. first (filter t xs)) (nodes_here p) ∙ ap first (picked t p (nodes_from p 0) h)

  pub below_node : (p : Place) → t p ≡ false → first_in t p ≡ first (filter t (nodes_from p 0))
  below_node p h = ap (λ xs. first (filter t xs)) (nodes_here p) ∙ ap first (passed t p (nodes_from p 0) h)

-- ---- the children one by one

-- the node of an element, where its range contains another
abbrev pub node_if : Bool → Term → Option Tree
node_if b e = cond b (node_part e) None

pub node_if_is : (b : Bool) (e : Term) (g : Tree) → Some g ≡ node_if b e → e ≡ Node g
node_if_is true (Node t) g h = cc
node_if_is true (Token l) g h = absurd (cc)
node_if_is false e g h = absurd (cc)

module _ (p : Place) (g : Tree) (i a b offset end : ℕ) (e : Term) (h : term_at p ≡ Some (Node g)) (k : Some e ≡ slice_get (children_of g) i) (o : offset ≡ start_of (below p i)) (n : end ≡ start_of (below p (i + 1))) where
  test_is : spans a b (below p i) ≡ (nat_le offset a && nat_le b end)
  test_is =
      ap (λ m. nat_le (start_of (below p i)) a && nat_le b m) (sym (next_start p i))
      ∙ ap (λ m. nat_le m a && nat_le b (start_of (below p (i + 1)))) (sym o) ∙ ap (λ m. nat_le offset a && nat_le b m) (sym n)

  list_is : children_from p i ≡ cursor_of (below p i) e ∷ children_from p (i + 1)
  list_is =
      from_here p i ∙ ap (λ x. cons_option x (children_from p (i + 1))) (ap (cursor_in (below p i)) (child_term p g i e h k))

  case_by : (x : Term) (t : Bool) → spans a b (below p i) ≡ t → (ps : List Cursor) → filter (spans a b) (nodes (cursor_of (below p i) x ∷ ps)) ≡ cons_option (option_map (λ _. below p i) (node_if t x)) (filter (spans a b) (nodes ps))
  case_by (Node u) true f ps = picked (spans a b) (below p i) (nodes ps) f
  case_by (Node u) false f ps = passed (spans a b) (below p i) (nodes ps) f
  case_by (Token l) true f ps = refl
  case_by (Token l) false f ps = refl

  whole : filter (spans a b) (nodes (children_from p i)) ≡ cons_option (option_map (λ _. below p i) (node_if (nat_le offset a && nat_le b end) e)) (filter (spans a b) (nodes (children_from p (i + 1))))
  whole = ap (λ cs. filter (spans a b) (nodes cs)) list_is ∙ case_by e _ test_is (children_from p (i + 1))

  pub spans_here : (u : Tree) → Some u ≡ node_if (nat_le offset a && nat_le b end) e → first (filter (spans a b) (nodes (children_from p i))) ≡ Some (below p i)
  spans_here u f = ap first whole ∙ ap (λ x. first (cons_option (option_map (λ _. below p i) x) (filter (spans a b) (nodes (children_from p (i + 1)))))) (sym f)

  pub spans_later : None ≡ node_if (nat_le offset a && nat_le b end) e → first (filter (spans a b) (nodes (children_from p i))) ≡ first (filter (spans a b) (nodes (children_from p (i + 1))))
  spans_later f = ap first whole ∙ ap (λ x. first (cons_option (option_map (λ _. below p i) x) (filter (spans a b) (nodes (children_from p (i + 1)))))) (sym f)
