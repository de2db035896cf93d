-- Lemmas on the counts of elements, and on lists of different lengths.
use Rattle.std.proofs.Common.{◌≡◌, ◌≢◌, ℕ, zero, suc, ◌≤◌, ◌<◌, false, List, [], ◌∷◌, length, refl, arith, ap, sym, ◌∙◌, get_or}
use Rattle.std.proofs.lemmas.Bool.{and_right}
use Rattle.rowan_green.specs.Forest.{Tree, tree_count, forest_count, same_forest}
use Rattle.rowan_green.specs.Term.{Term, forest_of, forest_of-terms, term_count, children_of}
use Rattle.rowan_green.specs.declared.utility_types.NodeOrToken.TheVariants.{Node, Token}

-- lists of different lengths are not the same
pub same_forest-lengths : (a b : List Term) → length a ≢ length b → false ≡ same_forest (forest_of a) (forest_of b)
same_forest-lengths [] [] h = absurd (h refl)
same_forest-lengths [] (Node t ∷ b) h = refl
same_forest-lengths [] (Token l ∷ b) h = refl
same_forest-lengths (Node t ∷ a) [] h = refl
same_forest-lengths (Node t ∷ a) (Node u ∷ b) h = sym (and_right _ _ (sym (same_forest-lengths a b (λ e. h (ap suc e)))))
same_forest-lengths (Node t ∷ a) (Token l ∷ b) h = refl
same_forest-lengths (Token l ∷ a) [] h = refl
same_forest-lengths (Token l ∷ a) (Node t ∷ b) h = refl
same_forest-lengths (Token l ∷ a) (Token m ∷ b) h = sym (and_right _ _ (sym (same_forest-lengths a b (λ e. h (ap suc e)))))

count_at : (es : List Term) (i : ℕ) (d : Term) → i < length es → term_count (get_or es i d) ≤ forest_count (forest_of es)
count_at [] i d h = absurd (omega arith)
count_at (Node t ∷ es) zero d h = omega arith
count_at (Token l ∷ es) zero d h = omega arith
count_at (Node t ∷ es) (suc i) d h = omega (arith, count_at es i d (omega arith))
count_at (Token l ∷ es) (suc i) d h = omega (arith, count_at es i d (omega arith))

-- no term of a list has more elements than the list
pub count_is : (es : List Term) (i : ℕ) (d : Term) → i < length es → d ≡ get_or es i d → term_count d ≤ forest_count (forest_of es)
count_is es i d h e = rw (ap term_count e) (count_at es i d h)

-- a child node has fewer elements than its parent
pub child_falls : (t u : Tree) (es : List Term) (i : ℕ) (d : Term) → es ≡ children_of t → i < length es → d ≡ get_or es i d → d ≡ Node u → tree_count u < tree_count t
child_falls t u es i d e h g n =
    let k = count_is es i d h g in
    let a : forest_count (forest_of es) ≡ forest_count t.forest = ap (λ xs. forest_count (forest_of xs)) e ∙ ap forest_count (forest_of-terms t.forest) in
    let b : term_count d ≡ tree_count u = ap term_count n in
    omega (arith, k, a, b)
