-- Lemmas on the children of nodes that are edited.
use Rattle.std.proofs.Common.{◌≡◌, ℕ, ◌<◌, ◌^◌, length, arith}
use Rattle.rowan_green.specs.Forest.{Tree, tree_text}
use Rattle.rowan_green.specs.Term.{children_of, FitsNode}
use Rattle.rowan_green.proofs.Lengths.{children_texts}

-- a node whose text has this length, and as many children, may have them
pub node_fits : (t : Tree) (n : ℕ) → length (children_of t) < 2 ^ 32 → n ≡ length (tree_text t) → n < 2 ^ 32 → FitsNode (children_of t)
node_fits t n h e k = record { count = h; text = omega (arith, children_texts t, e, k) }
