-- What a contract sees of a node in an arena.
use Rattle.std.specs.Prelude.{◌≡◌, ℕ, ◌-◌, ◌≤◌, ◌<◌, List, [], length, Option, Some, None, slice_get}
use Rattle.rowan_green.specs.Forest.{Tree}
use Rattle.rowan_green.specs.Term.{Term, tree_of}
use Rattle.rowan_green.specs.declared.utility_types.NodeOrToken.TheVariants.{Node, Token}
use Rattle.rowan_green.specs.declared.arena.Arena.{Arena}
use Rattle.rowan_green.specs.Arena.{IsSound, items_in, terms_at}

-- the tree that a term is; one without children if it is none
abbrev pub tree_or_empty : Option Term → Tree
tree_or_empty None = tree_of 0 []
tree_or_empty (Some (Node t)) = t
tree_or_empty (Some (Token l)) = tree_of 0 []

-- the tree of the entry of this number
abbrev pub tree_at : Arena → ℕ → Tree
tree_at a i = tree_or_empty (slice_get (terms_at (items_in a)) i)

-- the tree of the last entry
abbrev pub last_tree : Arena → Tree
last_tree a = tree_at a (length a.entries.items - 1)

-- the entry of this number is a node of a sound arena
pub record IsNodeAt (a : Arena) (i : ℕ) : Type 0 where
  pub sound : IsSound a []
  pub within : i < length a.entries.items
  pub node : slice_get (terms_at (items_in a)) i ≡ Some (Node (tree_at a i))

-- the last of these terms is this one
pub record IsLast (ts : List Term) (x : Term) : Type 0 where
  pub some : 1 ≤ length ts
  pub term : slice_get ts (length ts - 1) ≡ Some x
