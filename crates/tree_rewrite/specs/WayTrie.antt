-- A trie from up-paths to numbers: the children of each node, and the number of each. The node of the root is 0. Model of the code; only proofs use it.
use Rattle.std.specs.Prelude.{◌≡◌, ℕ, ◌<◌, List, [], ◌∷◌, length, slice_get, Option, Some, None, option_and_then, ◌&&◌, nat_eq}
use Rattle.std.specs.HashMap.{HashMap, get}
use Rattle.syntax_tree.specs.Element.{Way}
use Rattle.tree_rewrite.specs.declared.way_trie.WayTrie.{WayTrie}

-- the node of a child of a node, if any
abbrev pub child_in : {S : Type 0} → HashMap (ℕ × ℕ) ℕ S → ℕ → ℕ → Option ℕ
child_in m p i = get (λ x y. nat_eq x.0 y.0 && nat_eq x.1 y.1) m (p, i)

-- the node of an up-path, by the children of each node
abbrev pub node_by : (ℕ → ℕ → Option ℕ) → Way → Option ℕ
node_by f [] = Some 0
node_by f (i ∷ w) = option_and_then (λ p. f p i) (node_by f w)

abbrev pub joined : Option (Option ℕ) → Option ℕ
joined None = None
joined (Some o) = o

-- the number of a node, by the numbers of all nodes
abbrev pub number_of : List (Option ℕ) → Option ℕ → Option ℕ
number_of ns None = None
number_of ns (Some k) = joined (slice_get ns k)

abbrev pub node_at : WayTrie → Way → Option ℕ
node_at t w = node_by (child_in t.children) w

-- the number of an up-path, if any
abbrev pub number_at : WayTrie → Way → Option ℕ
number_at t w = number_of t.numbers.items (node_at t w)

-- there are `n` nodes, and at most one up-path leads to each
pub record IsTrie (f : ℕ → ℕ → Option ℕ) (n : ℕ) : Type 0 where
  pub root : 0 < n
  pub within : (p i k : ℕ) → f p i ≡ Some k → (p < n) × (k < n)
  pub one : (v w : Way) (k : ℕ) → node_by f v ≡ Some k → node_by f w ≡ Some k → v ≡ w

abbrev pub IsSound : WayTrie → Type 0
IsSound t = IsTrie (child_in t.children) (length t.numbers.items)

-- the second trie has this node at an up-path, the nodes of the first, and the same numbers
pub record HasNode (v : Way) (k : ℕ) (t s : WayTrie) : Type 0 where
  pub sound : IsSound s
  pub here : node_at s v ≡ Some k
  pub nodes : (w : Way) (m : ℕ) → node_at t w ≡ Some m → node_at s w ≡ Some m
  pub numbers : (w : Way) → number_at s w ≡ number_at t w
