-- Laws of rewrites.
use Rattle.std.specs.Prelude.{◌≡◌, ℕ, ◌+◌, List, ◌∷◌, ◌++◌, length, map, true, false}
use Rattle.std.specs.List.{All}
use Rattle.rowan_green.specs.Forest.{Tree}
use Rattle.syntax_tree.specs.Element.{Element, is_node, term_of}
use Rattle.tree_rewrite.specs.Change.{Change, KeepsRoot, has_collision}
use Rattle.syntax_tree.specs.Mapping.{Mapping, are_ordered}
use Rattle.tree_rewrite.specs.Moved.{way_to}
use Rattle.tree_rewrite.specs.Rewrite.{jobs, or_no_jobs, is_placeable, rewrite}
use Rattle.tree_rewrite.specs.Marked.{Marked, changed}
use Rattle.tree_rewrite.specs.Changed.{changed_at, bounds_in}
use Rattle.tree_rewrite.specs.Fits.{IsNode}
use Rattle.tree_rewrite.specs.Orders.{is_order, put_in_order, same_gap_at}

-- changes that are applied one at a time, in any admitted order, lead to the tree with all of them applied atomically
abbrev pub OrdersAgree : Type 0
OrdersAgree = (top : Element) (cs : List Change) (ms : Mapping) (os : List ℕ) → is_placeable top cs ms ≡ true → is_order (or_no_jobs (jobs top cs ms)) os ≡ true
    → put_in_order top (or_no_jobs (jobs top cs ms)) os ≡ rewrite top cs ms

-- there is an admitted order of changes that have a place each and do not collide
abbrev pub OrderExists : Type 0
OrderExists = (top : Element) (cs : List Change) (ms : Mapping) → is_placeable top cs ms ≡ true
    → (os : List ℕ) × (is_order (or_no_jobs (jobs top cs ms)) os ≡ true)

-- by a mapping whose outputs are in trees of greater numbers, a climb ends within its bound: with more steps it finds the same
abbrev pub ClimbsEnd : Type 0
ClimbsEnd = (ms : Mapping) (more : ℕ) (b a : Element) → are_ordered ms ≡ true → way_to (length ms + 1 + more) ms b a ≡ way_to (length ms + 1) ms b a

-- two recordings on one tree are equivalent: both or neither have a collision, both or neither have a place for each change, and the trees with all changes applied are equal
pub record AreAlike (top : Element) (cs ds : List Change) (ms : Mapping) : Type 0 where
  pub colliding : has_collision cs ≡ has_collision ds
  pub placeable : is_placeable top cs ms ≡ is_placeable top ds ms
  pub same : is_placeable top cs ms ≡ true → rewrite top cs ms ≡ rewrite top ds ms

-- two adjacent changes may be recorded in either order, unless both insert into the same gap
abbrev pub SwapsAgree : Type 0
SwapsAgree = (top : Element) (before after : List Change) (c d : Change) (ms : Mapping) → same_gap_at c d ≡ false
    → AreAlike top (before ++ c ∷ (d ∷ after)) (before ++ d ∷ (c ∷ after)) ms

-- if each change that replaces the root replaces it by one node, the tree with all changes applied is one node
abbrev pub RootStays : Type 0
RootStays = (top : Element) (cs : List Change) (ms : Mapping) → is_node (term_of top) ≡ true → All KeepsRoot cs
    → (t : Tree) × IsNode (rewrite top cs ms) t

-- the changed ranges are those of the elements at the changed up-paths
abbrev pub RangesAgree : Type 0
RangesAgree = (m : Marked) (t : Tree) → IsNode m t → changed_at m 0 ≡ map (bounds_in t) (changed m)
