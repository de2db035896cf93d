-- The leaves of lists of elements, and how many elements these are.
use Rattle.std.proofs.Common.{◌≡◌, ℕ, ◌+◌, ◌<◌, List, [], ◌∷◌, ◌++◌, reverse, refl, ap, sym, ◌∙◌, append_assoc, append-nil, arith}
use Rattle.rowan_green.specs.Forest.{Forest, empty, node, leaf, Tree, forest_count}
use Rattle.rowan_green.specs.Leaf.{Leaf}
use Rattle.rowan_green.specs.Term.{Term, children_of, forest_of, forest_of-terms}
use Rattle.rowan_green.specs.declared.utility_types.NodeOrToken.TheVariants.{Node, Token}
use Rattle.tree_patterns.specs.Leaves.{leaves}
use Rattle.tree_patterns.specs.Places.{has_let_in}
use Rattle.tree_patterns.proofs.Stacks.{put, top}

-- the leaves of elements, in order
abbrev pub leaves_in : List Term → List Leaf
leaves_in es = leaves (forest_of es)

-- how many nodes and leaves they have
abbrev pub weight : List Term → ℕ
weight es = forest_count (forest_of es)

pub leaves-append : (xs ys : List Term) → leaves_in (xs ++ ys) ≡ leaves_in xs ++ leaves_in ys
leaves-append [] ys = refl
leaves-append (Node t ∷ xs) ys =
    ap (λ ls. leaves t.forest ++ ls) (leaves-append xs ys) ∙ sym (append_assoc (leaves t.forest) (leaves_in xs) (leaves_in ys))
leaves-append (Token l ∷ xs) ys = ap (λ ls. l ∷ ls) (leaves-append xs ys)

pub weight-append : (xs ys : List Term) → weight (xs ++ ys) ≡ weight xs + weight ys
weight-append [] ys = omega arith
weight-append (Node t ∷ xs) ys = omega (arith, weight-append xs ys)
weight-append (Token l ∷ xs) ys = omega (arith, weight-append xs ys)

-- all children of a node make its forest
pub children-forest : (t : Tree) → forest_of (children_of t) ≡ t.forest
children-forest t = forest_of-terms t.forest

-- a node on top of a stack is replaced by its children
pub node-leaves : (t : Tree) (old new after : List Term) → old ≡ new ++ Node t ∷ [] → after ≡ new ++ reverse (children_of t)
    → leaves_in (reverse old) ≡ leaves_in (reverse after)
node-leaves t old new after is then =
    ap leaves_in (top old new (Node t) is)
    ∙ ap (λ f. leaves f ++ leaves_in (reverse new)) (sym (children-forest t))
    ∙ sym (leaves-append (children_of t) (reverse new))
    ∙ sym (ap (λ es. leaves_in (reverse es)) then ∙ ap leaves_in (put new (children_of t)))

pub node-weight : (t : Tree) (old new after : List Term) → old ≡ new ++ Node t ∷ [] → after ≡ new ++ reverse (children_of t)
    → weight (reverse after) < weight (reverse old)
node-weight t old new after is then =
    let e : weight (reverse old) ≡ weight (Node t ∷ reverse new) = ap weight (top old new (Node t) is) in
    let f : weight (reverse after) ≡ weight (children_of t ++ reverse new) = ap (λ es. weight (reverse es)) then ∙ ap weight (put new (children_of t)) in
    let g : weight (children_of t) ≡ forest_count t.forest = ap forest_count (children-forest t) in
    omega (arith, e, f, g, weight-append (children_of t) (reverse new))

-- a leaf on top of a stack is the next one
pub token-leaves : (l : Leaf) (old new : List Term) → old ≡ new ++ Token l ∷ [] → leaves_in (reverse old) ≡ l ∷ leaves_in (reverse new)
token-leaves l old new is = ap leaves_in (top old new (Token l) is)

pub token-weight : (l : Leaf) (old new : List Term) → old ≡ new ++ Token l ∷ [] → weight (reverse new) < weight (reverse old)
token-weight l old new is =
    let e : weight (reverse old) ≡ weight (Token l ∷ reverse new) = ap weight (top old new (Token l) is) in
    omega (arith, e)

-- a stack with the children of a node alone
pub first-leaves : (t : Tree) (stack : List Term) → stack ≡ [] ++ reverse (children_of t) → leaves t.forest ≡ leaves_in (reverse stack)
first-leaves t stack is =
    ap leaves (sym (children-forest t)) ∙ sym (ap (λ es. leaves_in (reverse es)) is ∙ ap leaves_in (put [] (children_of t)) ∙ ap leaves_in (append-nil (children_of t)))

-- all that a walk through the leaves needs
pub ruleset node_steps = (node-leaves, node-weight, token-leaves, token-weight, first-leaves)

pub children_weight : (t : Tree) (es : List Term) → es ≡ children_of t → weight es ≡ forest_count t.forest
children_weight t es is = ap weight is ∙ ap forest_count (children-forest t)

pub children_let : (t : Tree) (es : List Term) → es ≡ children_of t → has_let_in (forest_of es) ≡ has_let_in t.forest
children_let t es is = ap (λ xs. has_let_in (forest_of xs)) is ∙ ap has_let_in (children-forest t)

-- what a loop over the children of a node begins with
pub ruleset child_facts = (children_weight, children_let)
