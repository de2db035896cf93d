-- The open nodes of a parser with the trees that each has so far: the innermost node's trees first; the last ones stand
-- outside of all nodes. What each call makes of them.
use Rattle.std.specs.Prelude.{ℕ, suc, ◌+◌, ◌-◌, ◌≡◌, Bool, List, [], ◌∷◌, Option, Some, None, IfSome, length}
use Rattle.parser_events.specs.Marked.{Marked, End, Node, Split, ◌beside◌, size, front, after, into, walk}
use Rattle.parser_events.specs.Steps.{Step}

-- how many nodes are open
abbrev pub level : List Marked → ℕ
level [] = 0
level (f ∷ below) = length below

-- how many leaves, messages and nodes they have in all
abbrev pub total_size : List Marked → ℕ
total_size [] = 0
total_size (f ∷ below) = size f + total_size below

-- The change is applied, or an allocation fails: the value is `None` then, and from then on.
abbrev pub Becomes : {A : Type 0} → (A → A) → Option A → Option A → Type 0
Becomes change None None = Unit {0}
Becomes change None (Some new) = ⊥
Becomes change (Some old) None = Unit {0}
Becomes change (Some old) (Some new) = new ≡ change old

-- a tree is appended to those of the innermost node
abbrev pub with_tree : Marked → List Marked → List Marked
with_tree tree [] = []
with_tree tree (f ∷ below) = (f beside tree) ∷ below

-- a node is opened in the innermost one
abbrev pub with_node : List Marked → List Marked
with_node nodes = End ∷ nodes

-- the innermost node is closed as one of this kind
abbrev pub closed : ℕ → List Marked → List Marked
closed kind [] = []
closed kind (f ∷ []) = f ∷ []
closed kind (f ∷ around ∷ below) = (around beside Node kind f End) ∷ below

-- the innermost node is abandoned: its trees become trees of the node around it
abbrev pub left_out : List Marked → List Marked
left_out [] = []
left_out (f ∷ []) = f ∷ []
left_out (f ∷ around ∷ below) = (around beside f) ∷ below

-- `Marker::extend_left`: the innermost node is abandoned, and the trees of the node around it go first into its one
-- tree, which is then the only one of that node
abbrev pub extended : List Marked → List Marked
extended [] = []
extended (f ∷ []) = f ∷ []
extended (f ∷ around ∷ below) = into around f ∷ below

-- the innermost node is closed as a field access by a float, and one is opened around that
abbrev pub split : Bool → List Marked → List Marked
split ends_in_dot [] = []
split ends_in_dot (f ∷ below) = Split ends_in_dot f End ∷ below

-- `CompletedMarker::precede`: opens a node around the last trees of the innermost open node. `before` counts the
-- leaves, messages and nodes before them, in all open nodes.
abbrev pub wrapped : ℕ → List Marked → List Marked
wrapped before [] = []
wrapped before (f ∷ below) = after (before - total_size below) f ∷ front (before - total_size below) f ∷ below

-- The innermost node has `around` open nodes around it. Nothing is required after an allocation failure.
abbrev pub IsInnermost : ℕ → Option (List Marked) → Type 0
IsInnermost around nodes = IfSome nodes (λ open_nodes. level open_nodes ≡ suc around)

-- No node is open.
abbrev pub IsClosed : Option (List Marked) → Type 0
IsClosed nodes = IfSome nodes (λ open_nodes. level open_nodes ≡ 0)

-- A completed node is identified by the number of leaves, messages and nodes before it, in all open nodes, and the
-- number inside it. No two nodes have both in common.
pub record Place : Type 0 where
  pub before : ℕ
  pub inside : ℕ

-- of the innermost node
abbrev pub place_of : List Marked → Place
place_of [] = record { before = 0; inside = 0 }
place_of (f ∷ below) = record { before = total_size below; inside = size f }

-- A closed node at this place is one of the trees of the innermost open node, or of those outside of all nodes where none
-- is open.
pub record IsAmong (place : Place) (nodes : List Marked) : Type 0 where
  pub earlier : Marked
  pub kind : ℕ
  pub children : Marked
  pub later : Marked
  pub below : List Marked
  pub are : nodes ≡ (earlier beside Node kind children later) ∷ below
  pub before : place.before ≡ total_size (earlier ∷ below)
  pub inside : place.inside ≡ size children

-- The node is one of the trees of the innermost open node. Nothing is required after an allocation failure.
abbrev pub IsChild : Place → Option (List Marked) → Type 0
IsChild place nodes = IfSome nodes (IsAmong place)

-- no node is open, and these are the steps of the trees
pub record AreStepsOf (nodes : Option (List Marked)) (steps : List Step) : Type 0 where
  pub trees : Marked
  pub left : nodes ≡ Some (trees ∷ [])
  pub walked : steps ≡ walk trees
