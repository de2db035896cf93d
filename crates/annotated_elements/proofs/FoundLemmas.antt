-- The elements of a rewritten tree, with their marks, in preorder.
use Rattle.std.proofs.Common.{◌≡◌, ℕ, ◌+◌, List, [], ◌∷◌, ◌++◌, map, Bool, true, false, refl, ap, sym, ◌∙◌}
use Rattle.std.proofs.lemmas.List.{append-nil, map-append}
use Rattle.std.specs.List.{zip}
use Rattle.rowan_green.specs.Forest.{empty, Tree}
use Rattle.rowan_green.specs.Term.{forest_of-terms}
use Rattle.rowan_green.specs.declared.utility_types.NodeOrToken.TheVariants.{Node, Token}
use Rattle.rowan.specs.Place.{Place}
use Rattle.rowan.specs.Walk.{Event, walk_forest, walk_from, entered}
use Rattle.rowan.specs.declared.utility_types.WalkEvent.TheVariants.{Enter, Leave}
use Rattle.syntax_tree.specs.Element.{Way, Element, element_at, same_element}
use Rattle.syntax_tree.specs.Handle.{element_of, with_cursor}
use Rattle.syntax_tree.specs.Search.{elements}
use Rattle.tree_rewrite.specs.Marked.{Marked, nothing, inner, token, Mark, forest_in, origins, put_marks, if_put, changed_from, changed}
use Rattle.tree_rewrite.specs.Fits.{IsNode}
use Rattle.annotated_elements.specs.Changed.{ArePutMarks}
use Rattle.annotated_elements.specs.Found.{marks_from, marks, picked, found, AreOrigins}
use Rattle.annotated_elements.proofs.PickLemmas.{if_picked, picked-more, picked-append, picked-map, picked-pairs}

-- ---- a walk meets them at their ways
abbrev walked : ℕ → List Event → List Element
walked n v = map element_of (map (with_cursor n) (entered v))

walked-append : (n : ℕ) (v w : List Event) → walked n (v ++ w) ≡ walked n v ++ walked n w
walked-append n [] w = refl
walked-append n (Enter (Node p) ∷ v) w = ap (λ l. record { number = n; place = p } ∷ l) (walked-append n v w)
walked-append n (Enter (Token p) ∷ v) w = ap (λ l. record { number = n; place = p } ∷ l) (walked-append n v w)
walked-append n (Leave c ∷ v) w = walked-append n v w

-- the elements at these ways
abbrev stand_at : ℕ → Tree → List (Way × Mark) → List Element
stand_at n t ks = map (λ x. element_at n t x.0) ks

abbrev place_of : Tree → Way → Place
place_of t w = record { root = t; up = w }

walked-marks : (n : ℕ) (t : Tree) (m : Marked) (w : Way) (i : ℕ) → walked n (walk_forest (place_of t w) i (forest_in m)) ≡ stand_at n t (marks_from m w i)
walked-marks n t nothing w i = refl
walked-marks n t (inner m k f r) w i =
    let low = walk_forest (place_of t (i ∷ w)) 0 (forest_in f) in
    let rest = walk_forest (place_of t w) (i + 1) (forest_in r) in
    ap (λ l. element_at n t (i ∷ w) ∷ l)
    (walked-append n low (Leave (Node (place_of t (i ∷ w))) ∷ rest)
    ∙ (λ j. walked-marks n t f (i ∷ w) 0 j ++ walked-marks n t r w (i + 1) j)
    ∙ sym (map-append (λ x. element_at n t x.0) (marks_from f (i ∷ w) 0) (marks_from r w (i + 1))))
walked-marks n t (token m l r) w i = ap (λ l. element_at n t (i ∷ w) ∷ l) (walked-marks n t r w (i + 1))

-- ---- and their origins are those of the marks
abbrev came_from : List (Way × Mark) → List Element
came_from ks = map (λ x. x.1.origin) ks

origins-marks : (m : Marked) (w : Way) (i : ℕ) → origins m ≡ came_from (marks_from m w i)
origins-marks nothing w i = refl
origins-marks (inner m k f r) w i =
    ap (λ l. m.origin ∷ l)
    ((λ j. origins-marks f (i ∷ w) 0 j ++ origins-marks r w (i + 1) j)
    ∙ sym (map-append (λ x. x.1.origin) (marks_from f (i ∷ w) 0) (marks_from r w (i + 1))))
origins-marks (token m l r) w i = ap (λ l. m.origin ∷ l) (origins-marks r w (i + 1))

-- ---- in a tree
nothing_else : (r : Marked) → forest_in r ≡ empty → origins r ≡ []
nothing_else nothing h = refl
nothing_else (inner m k f r) h = cc
nothing_else (token m l r) h = cc

walked-tree : (n : ℕ) (t : Tree) → map element_of (elements (element_at n t [])) ≡ element_at n t [] ∷ walked n (walk_forest (place_of t []) 0 t.forest)
walked-tree n t =
    let top = place_of t [] in
    ap (λ l. element_at n t [] ∷ l)
    (walked-append n (walk_from top 0) (Leave (Node top) ∷ [])
    ∙ append-nil (walked n (walk_from top 0))
    ∙ ap (λ f. walked n (walk_forest top 0 f)) (forest_of-terms t.forest))

abbrev AreBeside : Marked → Tree → ℕ → Type 0
AreBeside m t n = (map element_of (elements (element_at n t [])) ≡ stand_at n t (marks m)) × (origins m ≡ came_from (marks m))

pub origins_agree : (m : Marked) (t : Tree) (n : ℕ) → IsNode m t → AreBeside m t n
origins_agree nothing t n h = cc
origins_agree (token m l r) t n h = cc
origins_agree (inner m k f r) t n h =
    let inside : t.forest ≡ forest_in f = cc in
    let after : forest_in r ≡ empty = cc in (
      walked-tree n t ∙ ap (λ l. element_at n t [] ∷ l) (ap (λ g. walked n (walk_forest (place_of t []) 0 g)) inside ∙ walked-marks n t f [] 0),
      ap (λ l. m.origin ∷ l) (ap (λ l. origins f ++ l) (nothing_else r after) ∙ append-nil (origins f) ∙ origins-marks f [] 0),
    )

-- ---- what is picked by its origin
pub found_beside : (m : Marked) (root : Element) (es : List Element) (e : Element) → AreOrigins m root es
    → map element_of (picked (λ o. same_element o e) (zip (elements root) es)) ≡ map (element_at root.number root.place.root) (found m e)
found_beside m root es e h =
    let p = λ (o : Element). same_element o e in
    let t = root.place.root in
    let n = root.number in
    let both = origins_agree m t n h.tree in
    let is_root : root ≡ element_at n t [] = λ i. element_at n t (h.top i) in
    picked-map p element_of (elements root) es
    ∙ (λ i. picked p (zip ((ap (λ r. map element_of (elements r)) is_root ∙ both.0) i) ((h.origins ∙ both.1) i)))
    ∙ picked-pairs p (element_at n t) (λ k. k.origin) (marks m)

-- ---- inserted elements
put-picked : (b : Bool) (w : Way) (ws : List Way) → if_put b w ws ≡ if_picked b w ws
put-picked true w ws = refl
put-picked false w ws = refl

abbrev is_put : Mark → Bool
is_put k = k.put

one_put : (m : Mark) (w : Way) (ws : List Way) (ks : List (Way × Mark)) → ws ≡ picked is_put ks → if_put m.put w ws ≡ picked is_put ((w, m) ∷ ks)
one_put m w ws ks h = put-picked m.put w ws ∙ ap (if_picked m.put w) h ∙ sym (picked-more is_put w m ks)

changed-marks : (m : Marked) (w : Way) (i : ℕ) → changed_from m w i ≡ picked is_put (marks_from m w i)
changed-marks nothing w i = refl
changed-marks (inner m k f r) w i =
    let low = changed-marks f (i ∷ w) 0 in
    let rest = changed-marks r w (i + 1) in
    let both = (λ j. low j ++ rest j) ∙ sym (picked-append is_put (marks_from f (i ∷ w) 0) (marks_from r w (i + 1))) in
    one_put m (i ∷ w) _ (marks_from f (i ∷ w) 0 ++ marks_from r w (i + 1)) both
changed-marks (token m l r) w i = one_put m (i ∷ w) _ (marks_from r w (i + 1)) (changed-marks r w (i + 1))

pub changed_agree : (m : Marked) → changed m ≡ picked (λ k. k.put) (marks m)
changed_agree nothing = refl
changed_agree (inner m k f r) = one_put m [] _ (marks_from f [] 0) (changed-marks f [] 0)
changed_agree (token m l r) = one_put m [] [] [] refl

-- ---- what is picked by its mark
abbrev put_in : List (Way × Mark) → List Bool
put_in ks = map (λ x. x.1.put) ks

marks-put : (m : Marked) (w : Way) (i : ℕ) → put_marks m ≡ put_in (marks_from m w i)
marks-put nothing w i = refl
marks-put (inner m k f r) w i =
    ap (λ l. m.put ∷ l)
    ((λ j. marks-put f (i ∷ w) 0 j ++ marks-put r w (i + 1) j)
    ∙ sym (map-append (λ x. x.1.put) (marks_from f (i ∷ w) 0) (marks_from r w (i + 1))))
marks-put (token m l r) w i = ap (λ l. m.put ∷ l) (marks-put r w (i + 1))

none_else : (r : Marked) → forest_in r ≡ empty → put_marks r ≡ []
none_else nothing h = refl
none_else (inner m k f r) h = cc
none_else (token m l r) h = cc

put_agree : (m : Marked) (t : Tree) → IsNode m t → put_marks m ≡ put_in (marks m)
put_agree nothing t h = cc
put_agree (token m l r) t h = cc
put_agree (inner m k f r) t h =
    let after : forest_in r ≡ empty = cc in
    ap (λ l. m.put ∷ l) (ap (λ l. put_marks f ++ l) (none_else r after) ∙ append-nil (put_marks f) ∙ marks-put f [] 0)

pub changed_beside : (m : Marked) (root : Element) (bs : List Bool) → ArePutMarks m root bs
    → map element_of (picked (λ b. b) (zip (elements root) bs)) ≡ map (element_at root.number root.place.root) (changed m)
changed_beside m root bs h =
    let t = root.place.root in
    let n = root.number in
    let both = origins_agree m t n h.tree in
    let is_root : root ≡ element_at n t [] = λ i. element_at n t (h.top i) in
    picked-map (λ (b : Bool). b) element_of (elements root) bs
    ∙ (λ i. picked (λ b. b) (zip ((ap (λ r. map element_of (elements r)) is_root ∙ both.0) i) ((h.marks ∙ put_agree m t h.tree) i)))
    ∙ picked-pairs (λ (b : Bool). b) (element_at n t) (λ k. k.put) (marks m)
    ∙ ap (map (element_at n t)) (sym (changed_agree m))
