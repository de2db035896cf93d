-- Child nodes of a node, and of the shifted one.
use Rattle.std.proofs.Common.{◌≡◌, ℕ, suc, ◌+◌, ◌<◌, ◌^◌, List, [], ◌∷◌, length, map, Some, Bool, true, ltb, refl, ap, sym, ◌∙◌, subst, arith}
use Rattle.std.proofs.lemmas.Bool.{eq-eqb, lt-ltb, ltb-true, and_parts, and_from, both_ways}
use Rattle.std.proofs.lemmas.List.{length-map}
use Rattle.std.specs.List.{zip, list_all}
use Rattle.rowan_green.specs.Forest.{Tree}
use Rattle.rowan_green.specs.Term.{Term, terms}
use Rattle.rowan_green.specs.declared.utility_types.NodeOrToken.TheVariants.{Node, Token}
use Rattle.rowan.specs.Place.{Place, children_in, terms_below}
use Rattle.rowan.specs.Around.{numbered, nodes, children}
use Rattle.syntax_tree.specs.Element.{Element, element_at, term_of}
use Rattle.syntax_tree.specs.Handle.{with_place}
use Rattle.syntax_tree.specs.Mapping.{is_child, are_children, are_ordered, RefusesNodes}
use Rattle.syntax_tree.specs.declared.error.MappingError.{MappingError}
use Rattle.syntax_tree.specs.declared.error.MappingError.TheVariants.{NotChild, MoreInputs, Order, NoMemory}
use Rattle.tree_rewrite.proofs.OrderLemmas.{same_way-own}
use Rattle.syntax_editor.specs.declared.make_error.MakeError.{MakeError}
use Rattle.syntax_editor.specs.declared.make_error.MakeError.TheVariants as makes
use Rattle.tree_indent.specs.Indented.{FitsShifted, RefusesShifted}
use Rattle.tree_indent.specs.Mapped.{child_nodes, pairs_below, IsAfter, RefusesMapped, of_mapping, of_make}
use Rattle.tree_indent.specs.Shifted.{shifted_tree}
use Rattle.tree_indent.specs.declared.shift.Shift.{Shift}
use Rattle.tree_indent.proofs.Shifting.{shifted_term, shifted-terms}

-- ---- as many of both
count : (s : Shift) (p q : Place) (i j : ℕ) (es : List Term) → length (nodes (numbered p i es)) ≡ length (nodes (numbered q j (map (shifted_term s) es)))
count s p q i j [] = refl
count s p q i j (Node t ∷ es) = ap suc (count s p q (i + 1) (j + 1) es)
count s p q i j (Token l ∷ es) = count s p q (i + 1) (j + 1) es

same_count : (s : Shift) (t : Tree) (e : Element) (n : ℕ) → term_of e ≡ Some (Node t) → length (child_nodes e) ≡ length (child_nodes (element_at n (shifted_tree s t) []))
same_count s t e n is =
    let root : Element = element_at n (shifted_tree s t) [] in
    length-map (nodes (children e.place)) (with_place e)
    ∙ ap (λ o. length (nodes (numbered e.place 0 (children_in o)))) is
    ∙ count s e.place root.place 0 0 (terms t.forest)
    ∙ ap (λ es. length (nodes (numbered root.place 0 es))) (shifted-terms s t.forest)
    ∙ sym (length-map (nodes (children root.place)) (with_place root))

-- ---- children
all_below : (root : Element) (i : ℕ) (es : List Term) → list_all (is_child root) (map (with_place root) (nodes (numbered root.place i es))) ≡ true
all_below root i [] = refl
all_below root i (Node t ∷ es) =
    and_from _ _ (and_from _ _ (eq-eqb root.number root.number refl) (same_way-own root.place.up)) (all_below root (i + 1) es)
all_below root i (Token l ∷ es) = all_below root (i + 1) es

zip_all : (P : Element → Bool) (xs ys : List Element) → list_all P ys ≡ true → list_all (λ m. P m.1) (zip {K = Element} {X = Element} xs ys) ≡ true
zip_all P [] ys h = refl
zip_all P (x ∷ xs) [] h = refl
zip_all P (x ∷ xs) (y ∷ ys) h = let p = and_parts (P y) (list_all P ys) h in and_from _ _ p.0 (zip_all P xs ys p.1)

outputs_below : (e root : Element) → are_children root (pairs_below e root) ≡ true
outputs_below e root = zip_all (is_child root) (child_nodes e) (child_nodes root) (all_below root 0 (terms_below root.place))

-- ---- numbers
all_ordered : (e r : Element) (ps qs : List Place) → e.number < r.number → are_ordered (zip (map (with_place e) ps) (map (with_place r) qs)) ≡ true
all_ordered e r [] qs h = refl
all_ordered e r (p ∷ ps) [] h = refl
all_ordered e r (p ∷ ps) (q ∷ qs) h = and_from _ _ (lt-ltb e.number r.number h) (all_ordered e r ps qs h)

first_ordered : (e r : Element) (ps qs : List Place) → length ps ≡ length qs → 0 < length ps → are_ordered (zip (map (with_place e) ps) (map (with_place r) qs)) ≡ true → e.number < r.number
first_ordered e r [] qs l some h = absurd (omega (arith, some))
first_ordered e r (p ∷ ps) [] l some h = absurd (omega (arith, l))
first_ordered e r (p ∷ ps) (q ∷ qs) l some h = ltb-true e.number r.number (and_parts (ltb e.number r.number) _ h).0

ordered_after : (e r : Element) (ps qs : List Place) → (0 < length ps → e.number < r.number) → are_ordered (zip (map (with_place e) ps) (map (with_place r) qs)) ≡ true
ordered_after e r [] qs h = refl
ordered_after e r (p ∷ ps) qs h = all_ordered e r (p ∷ ps) qs (h (omega arith))

count_places : (e : Element) → length (child_nodes e) ≡ length (nodes (children e.place))
count_places e = length-map (nodes (children e.place)) (with_place e)

-- if they are mapped, their tree number is greater
pub is_after : (s : Shift) (t : Tree) (e root : Element) (n : ℕ) → term_of e ≡ Some (Node t) → root ≡ element_at n (shifted_tree s t) []
    → are_ordered (pairs_below e root) ≡ true → IsAfter n e
is_after s t e root n is stands h some =
    let new : Element = element_at n (shifted_tree s t) [] in
    let many : length (child_nodes e) ≡ length (child_nodes new) = same_count s t e n is in
    let l : length (nodes (children e.place)) ≡ length (nodes (children new.place)) = sym (count_places e) ∙ many ∙ count_places new in
    let some_places : 0 < length (nodes (children e.place)) = subst (λ k. 0 < k) (count_places e) some in
    first_ordered e new (nodes (children e.place)) (nodes (children new.place)) l some_places (subst (λ r. are_ordered (pairs_below e r) ≡ true) stands h)

-- only the order can be wrong
pub refused_order : (s : Shift) (t : Tree) (e root : Element) (n : ℕ) → term_of e ≡ Some (Node t) → root ≡ element_at n (shifted_tree s t) []
    → FitsShifted s e → n < 2 ^ 32
    → (error : MappingError) → RefusesNodes root (child_nodes e) (child_nodes root) error → RefusesMapped s e n (of_mapping error)
refused_order s t e root n is stands fits few NotChild h = absurd (both_ways _ h (outputs_below e root))
refused_order s t e root n is stands fits few MoreInputs h =
    let many : length (child_nodes e) ≡ length (child_nodes root) = same_count s t e n is ∙ ap (λ r. length (child_nodes r)) (sym stands) in
    absurd (omega (arith, h.1, many))
refused_order s t e root n is stands fits few Order h = (
  fits,
  few,
  λ after.
      let new : Element = element_at n (shifted_tree s t) [] in
      let ordered : are_ordered (pairs_below e new) ≡ true = ordered_after e new (nodes (children e.place)) (nodes (children new.place)) (λ k. after (subst (λ j. 0 < j) (sym (count_places e)) k)) in
      both_ways _ h.2 (subst (λ r. are_ordered (pairs_below e r) ≡ true) (sym stands) ordered),
)
refused_order s t e root n is stands fits few NoMemory h = tt

-- the error of the node alone
pub refused_alone : (s : Shift) (e : Element) (n : ℕ) (error : MakeError) → RefusesShifted s e n error → RefusesMapped s e n (of_make error)
refused_alone s e n makes.NoMemory h = tt
refused_alone s e n makes.NoTreeNumber h = h
refused_alone s e n makes.TooLong h = h
