-- Each part of a list of children has fewer elements than the list, and so has what a node's form holds than the node.
use Rattle.std.specs.Prelude.{◌≡◌, ℕ, ◌+◌, ◌*◌, ◌≤◌, max, List, [], ◌∷◌, ◌++◌, length}
use Rattle.std.proofs.Common.{arith}
use Rattle.rowan_green.specs.Leaf.{Leaf}
use Rattle.rowan_green.specs.Forest.{Tree, tree_count, forest_count}
use Rattle.rowan_green.specs.Term.{Term, forest_of}
use Rattle.rowan_green.specs.declared.utility_types.NodeOrToken.TheVariants.{Node, Token}
use Rattle.rowan_green.specs.declared.element_list.Link.{Link}
use Rattle.rowan_green.specs.declared.element_list.Link.TheVariants.{One, Block, Run, Fork}
use Rattle.rowan_green.specs.declared.element_list.ElementList.TheDeep.{deep-Link, deep-NodeForm}
use Rattle.rowan_green.specs.declared.node.NodeForm.{NodeForm}
use Rattle.rowan_green.specs.declared.node.NodeForm.TheVariants.{Flat, Data}
use Rattle.rowan_green.specs.NodeForm.{form_tree}
use Rattle.rowan_green.specs.Balanced.{terms_in, IsBalanced}
use denote.Param.Weighed.{most}

count-append : (xs ys : List Term) → forest_count (forest_of (xs ++ ys)) ≡ forest_count (forest_of xs) + forest_count (forest_of ys)
count-append [] ys = omega arith
count-append (Node t ∷ xs) ys = omega (arith, count-append xs ys)
count-append (Token l ∷ xs) ys = omega (arith, count-append xs ys)

length-le-count : (xs : List Term) → length xs ≤ forest_count (forest_of xs)
length-le-count [] = omega arith
length-le-count (Node t ∷ xs) = omega (arith, length-le-count xs)
length-le-count (Token l ∷ xs) = omega (arith, length-le-count xs)

most_le : (w : Term → ℕ) → ((t : Tree) → w (Node t) ≤ 3 * tree_count t + 2) → ((l : Leaf) → w (Token l) ≤ 1) → (es : List Term) → most w es ≤ 3 * forest_count (forest_of es) + 2
most_le w p q [] = omega arith
most_le w p q (Node t ∷ es) = omega (arith, most_le w p q es, p t)
most_le w p q (Token l ∷ es) = omega (arith, most_le w p q es, q l)

block_falls : (w : Term → ℕ) → ((t : Tree) → w (Node t) ≤ 3 * tree_count t + 2) → ((l : Leaf) → w (Token l) ≤ 1) → (es : List Term) → max (max (most w es) 0) 0 ≤ 3 * forest_count (forest_of es) + 2
block_falls w p q es = omega (arith, most_le w p q es)

fork_falls : (xs ys : List Term) → 8 ≤ length xs → 8 ≤ length ys → max (max (3 * forest_count (forest_of xs) + 3 + 1) (max (3 * forest_count (forest_of ys) + 3 + 1) 0)) 0 ≤ 3 * forest_count (forest_of (xs ++ ys)) + 2
fork_falls xs ys p q = omega (arith, count-append xs ys, length-le-count xs, length-le-count ys)

pub falls : (l : Link) → IsBalanced l → max (deep-Link l) 0 ≤ 3 * forest_count (forest_of (terms_in l)) + 2
falls (One (Node t)) p = omega arith
falls (One (Token l)) p = omega arith
falls (Block half v) p = block_falls _ (λ t. omega arith) (λ l. omega arith) v.items
falls (Run r) p = omega arith
falls (Fork half l r n h) p = fork_falls l.value.0 r.value.0 p.left p.right

pub form_falls : (f : NodeForm) → max (deep-NodeForm f) 0 ≤ 3 * tree_count (form_tree f) + 1
form_falls (Flat i a) = omega arith
form_falls (Data d) = omega arith
