-- The tests `same_leaf` and `same_tree` decide equality.
use Rattle.std.specs.Prelude.{◌≡◌, ℕ, List, refl, true, ◌&&◌, nat_eq}
use Rattle.std.proofs.Common.{subst, Decides}
use Rattle.std.proofs.lemmas.Bool.{and_parts, and_from, false≢true}
use Rattle.std.specs.Cmp.{unsigned_Decides, decided, IsEquivalence}
use Rattle.std.specs.Cmp.Lexicographic.{pointwise}
use lib.Pointwise.{pointwise_decides}
use Rattle.rowan_green.specs.Leaf.{Leaf, same_leaf}
use Rattle.rowan_green.specs.Forest.{Forest, empty, node, leaf, Tree, same_forest, same_tree}

same_kind : (k l : ℕ) → Decides (nat_eq k l) (k ≡ l)
same_kind = unsigned_Decides

same_text : (x y : List ℕ) → Decides (pointwise nat_eq x y) (x ≡ y)
same_text = pointwise_decides unsigned_Decides

leaves_equal : (l m : Leaf) → same_leaf l m ≡ true → l ≡ m
leaves_equal l m p =
    let q = and_parts (nat_eq l.kind m.kind) (pointwise nat_eq l.text m.text) p in
    λ i. record { kind = (same_kind l.kind m.kind).0 q.0 i; text = (same_text l.text m.text).0 q.1 i }

leaf_itself : (l : Leaf) → same_leaf l l ≡ true
leaf_itself l = and_from _ _ ((same_kind l.kind l.kind).1 refl) ((same_text l.text l.text).1 refl)

pub same_leaf-Decides : (l m : Leaf) → Decides (same_leaf l m) (l ≡ m)
same_leaf-Decides l m = (leaves_equal l m, λ e. subst (λ v. same_leaf l v ≡ true) e (leaf_itself l))

pub same_leaf-equiv : IsEquivalence same_leaf
same_leaf-equiv = decided same_leaf same_leaf-Decides

-- forests that pass the test are equal
pub forests_equal : (t u : Forest) → same_forest t u ≡ true → t ≡ u
forests_equal empty empty p = refl
forests_equal empty (node l g s) p = absurd (false≢true p)
forests_equal empty (leaf m s) p = absurd (false≢true p)
forests_equal (node k f r) empty p = absurd (false≢true p)
forests_equal (node k f r) (node l g s) p =
    let q = and_parts (nat_eq k l && same_forest f g) (same_forest r s) p in
    let h = and_parts (nat_eq k l) (same_forest f g) q.0 in
    λ i. node ((same_kind k l).0 h.0 i) (forests_equal f g h.1 i) (forests_equal r s q.1 i)
forests_equal (node k f r) (leaf m s) p = absurd (false≢true p)
forests_equal (leaf l r) empty p = absurd (false≢true p)
forests_equal (leaf l r) (node k g s) p = absurd (false≢true p)
forests_equal (leaf l r) (leaf m s) p =
    let q = and_parts (same_leaf l m) (same_forest r s) p in
    λ i. leaf (leaves_equal l m q.0 i) (forests_equal r s q.1 i)

forest_itself : (t : Forest) → same_forest t t ≡ true
forest_itself empty = refl
forest_itself (node k f r) = and_from _ _ (and_from _ _ ((same_kind k k).1 refl) (forest_itself f)) (forest_itself r)
forest_itself (leaf l r) = and_from _ _ (leaf_itself l) (forest_itself r)

trees_equal : (t u : Tree) → same_tree t u ≡ true → t ≡ u
trees_equal t u p =
    let q = and_parts (nat_eq t.kind u.kind) (same_forest t.forest u.forest) p in
    λ i. record { kind = (same_kind t.kind u.kind).0 q.0 i; forest = forests_equal t.forest u.forest q.1 i }

tree_itself : (t : Tree) → same_tree t t ≡ true
tree_itself t = and_from _ _ ((same_kind t.kind t.kind).1 refl) (forest_itself t.forest)

pub same_tree-Decides : (t u : Tree) → Decides (same_tree t u) (t ≡ u)
same_tree-Decides t u = (trees_equal t u, λ e. subst (λ v. same_tree t v ≡ true) e (tree_itself t))

pub same_tree-equiv : IsEquivalence same_tree
same_tree-equiv = decided same_tree same_tree-Decides
