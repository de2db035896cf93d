-- The first difference of two trees.
use Rattle.std.proofs.Common.{◌≡◌, ℕ, ◌+◌, ◌&&◌, ◌||◌, ◌==◌, Bool, true, false, nat_eq, List, length, Option, Some, None, is_none, if◌then◌else◌, refl, ◌∙◌, ap}
use Rattle.rowan_green.specs.Forest.{Forest, empty, node, leaf, Tree, forest_text, same_forest, same_tree}
use Rattle.rowan_green.specs.Leaf.{same_leaf}
use Rattle.rowan_green.specs.Term.{Term, forest_of, children_of, forest_of-terms}
use Rattle.parser_input.specs.Kinds.{WHITESPACE, COMMENT}
use Rattle.rust_document.specs.Rewrite.{bare}
use Rattle.rust_document.specs.Step.{bare_tree}
use Rattle.rust_document.specs.Difference.{Placed, nothing, node_at, leaf_at, placed, placed_tree, first_apart, apart_at, tree_apart}
use Rattle.syntax_tree.specs.Mapping.{or_else}

-- all children of a node make its forest
pub children-are : (t : Tree) (left : List Term) → left ≡ children_of t → forest_of left ≡ t.forest
children-are t left is = ap forest_of is ∙ forest_of-terms t.forest

-- the elements without their ranges
abbrev pub forest_in : Placed → Forest
forest_in nothing = empty
forest_in (node_at k i j f r) = node k (forest_in f) (forest_in r)
forest_in (leaf_at l i j r) = leaf l (forest_in r)

-- those are the elements that are no trivia
pub forest_in-placed : (at : ℕ) (f : Forest) → forest_in (placed at f) ≡ bare f
forest_in-placed at empty = refl
forest_in-placed at (node k f r) =
    let end = at + length (forest_text f) in
    λ i. node k (forest_in-placed at f i) (forest_in-placed end r i)
forest_in-placed at (leaf l r) = chosen (l.kind == WHITESPACE || l.kind == COMMENT) (forest_in-placed (at + length l.text) r)
  where
    chosen : (b : Bool) → forest_in (placed (at + length l.text) r) ≡ bare r
        → forest_in (if b then placed (at + length l.text) r else leaf_at l at (at + length l.text) (placed (at + length l.text) r))
        ≡ (if b then bare r else leaf l (bare r))
    chosen true h = h
    chosen false h = ap (leaf l) h

none-of : {A : Type 0} (a b : Option A) → is_none (or_else a b) ≡ (is_none a && is_none b)
none-of None b = refl
none-of (Some x) b = refl

-- there is no difference exactly where the elements are the same
pub none-apart : (p q : Placed) → is_none (first_apart p q) ≡ same_forest (forest_in p) (forest_in q)
none-apart nothing nothing = refl
none-apart nothing (node_at l m n g s) = refl
none-apart nothing (leaf_at b m n s) = refl
none-apart (node_at k i j f r) nothing = refl
none-apart (node_at k i j f r) (leaf_at b m n s) = refl
none-apart (leaf_at a i j r) nothing = refl
none-apart (leaf_at a i j r) (node_at l m n g s) = refl
none-apart (node_at k i j f r) (node_at l m n g s) = chosen (nat_eq k l) (none-apart f g) (none-apart r s)
  where
    chosen : (b : Bool)
        → is_none (first_apart f g) ≡ same_forest (forest_in f) (forest_in g)
        → is_none (first_apart r s) ≡ same_forest (forest_in r) (forest_in s)
        → is_none (if b then or_else (first_apart f g) (first_apart r s) else Some (apart_at (node_at k i j f r) (node_at l m n g s)))
        ≡ ((b && same_forest (forest_in f) (forest_in g)) && same_forest (forest_in r) (forest_in s))
    chosen true below after = none-of (first_apart f g) (first_apart r s) ∙ (λ h. below h && after h)
    chosen false below after = refl
none-apart (leaf_at a i j r) (leaf_at b m n s) = chosen (same_leaf a b) (none-apart r s)
  where
    chosen : (d : Bool)
        → is_none (first_apart r s) ≡ same_forest (forest_in r) (forest_in s)
        → is_none (if d then first_apart r s else Some (apart_at (leaf_at a i j r) (leaf_at b m n s)))
        ≡ (d && same_forest (forest_in r) (forest_in s))
    chosen true after = after
    chosen false after = refl

and-true : (b : Bool) → (b && true) ≡ b
and-true true = refl
and-true false = refl

-- two trees differ nowhere exactly where they are the same without trivia
pub trees-agree : (t u : Tree) → is_none (tree_apart t u) ≡ same_tree (bare_tree t) (bare_tree u)
trees-agree t u =
    none-apart (placed_tree t) (placed_tree u)
    ∙ (λ i. same_forest (forest_in-placed 0 (node t.kind t.forest empty) i) (forest_in-placed 0 (node u.kind u.forest empty) i))
    ∙ and-true (same_tree (bare_tree t) (bare_tree u))
