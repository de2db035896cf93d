-- Lemmas on comparisons of nodes and lists.
use Rattle.std.proofs.Common.{◌≡◌, ℕ, suc, ◌+◌, ◌<◌, ◌&&◌, List, ◌∷◌, length, drop, refl, ap, sym, ◌∙◌, arith, get_or, add-one, drop-cons}
use Rattle.std.proofs.lemmas.Bool.{eq-eqb}
use Rattle.rowan_green.specs.Forest.{Tree, same_forest, same_tree, forest_count, tree_count}
use Rattle.rowan_green.specs.Term.{Term, forest_of, forest_of-terms, children_of, same_term}
use Rattle.rowan_green.specs.declared.utility_types.NodeOrToken.TheVariants.{Node, Token}

-- the first terms, and then the others
same_forest-cons : (x y : Term) (xs ys : List Term) → same_forest (forest_of (x ∷ xs)) (forest_of (y ∷ ys)) ≡ (same_term x y && same_forest (forest_of xs) (forest_of ys))
same_forest-cons (Node t) (Node u) xs ys = refl
same_forest-cons (Node t) (Token m) xs ys = refl
same_forest-cons (Token l) (Node u) xs ys = refl
same_forest-cons (Token l) (Token m) xs ys = refl

-- the terms of this number, and then the others
pub same_forest-drop : (xs ys : List Term) (i : ℕ) (x y : Term) → i < length xs → i < length ys → x ≡ get_or xs i x → y ≡ get_or ys i y → same_forest (forest_of (drop i xs)) (forest_of (drop i ys)) ≡ (same_term x y && same_forest (forest_of (drop (i + 1) xs)) (forest_of (drop (i + 1) ys)))
same_forest-drop xs ys i x y h k d e =
    let a : drop i xs ≡ x ∷ drop (i + 1) xs = rw add-one (drop-cons xs i x h ∙ ap (λ z. z ∷ drop (suc i) xs) (sym d)) in
    let b : drop i ys ≡ y ∷ drop (i + 1) ys = rw add-one (drop-cons ys i y k ∙ ap (λ z. z ∷ drop (suc i) ys) (sym e)) in
    ap (λ zs. same_forest (forest_of zs) (forest_of (drop i ys))) a
    ∙ ap (λ zs. same_forest (forest_of (x ∷ drop (i + 1) xs)) (forest_of zs)) b
    ∙ same_forest-cons x y (drop (i + 1) xs) (drop (i + 1) ys)

-- nodes of one kind are equal where their children are
pub children_decide : (t u : Tree) (xs ys : List Term) → t.kind ≡ u.kind → xs ≡ children_of t → ys ≡ children_of u → same_tree t u ≡ same_forest (forest_of xs) (forest_of ys)
children_decide t u xs ys k d e =
    let a : t.forest ≡ forest_of xs = sym (ap forest_of d ∙ forest_of-terms t.forest) in
    let b : u.forest ≡ forest_of ys = sym (ap forest_of e ∙ forest_of-terms u.forest) in
    ap (λ v. v && same_forest t.forest u.forest) (eq-eqb t.kind u.kind k)
    ∙ ap (λ f. same_forest f u.forest) a
    ∙ ap (λ f. same_forest (forest_of xs) f) b

-- a node is one more than its children
pub children_count : (t : Tree) (xs : List Term) → xs ≡ children_of t → forest_count (forest_of xs) + 1 ≡ tree_count t
children_count t xs d = omega (arith, ap (λ v. forest_count (forest_of v)) d, ap forest_count (forest_of-terms t.forest))
