-- The elements around a place: children and siblings, as lists.
use Rattle.std.specs.Prelude.{ℕ, zero, suc, ◌+◌, List, [], ◌∷◌, drop, length, Option, Some, None}
use Rattle.std.specs.List.{cons_option, filter_map}
use Rattle.rowan_green.specs.Forest.{Tree}
use Rattle.rowan_green.specs.Term.{Term}
use Rattle.rowan_green.specs.Either.{node_part, token_part}
use Rattle.rowan_green.specs.declared.utility_types.NodeOrToken.{NodeOrToken}
use Rattle.rowan_green.specs.declared.utility_types.NodeOrToken.TheVariants.{Node, Token}
use Rattle.rowan.specs.Place.{Place, above, below, term_at, terms_below}
use Rattle.rowan.specs.declared.utility_types.Direction.{Direction}
use Rattle.rowan.specs.declared.utility_types.Direction.TheVariants.{Next, Prev}

-- the place of a node, or the place of a token
abbrev pub Cursor : Type 0
Cursor = NodeOrToken Place Place

abbrev pub place_in : Cursor → Place
place_in (Node p) = p
place_in (Token p) = p

abbrev pub cursor_of : Place → Term → Cursor
cursor_of p (Node t) = Node p
cursor_of p (Token l) = Token p

abbrev pub cursor_in : Place → Option Term → Option Cursor
cursor_in p None = None
cursor_in p (Some e) = Some (cursor_of p e)

-- the element at a place, if any
abbrev pub cursor_at : Place → Option Cursor
cursor_at p = cursor_in p (term_at p)

-- children of a place, the first of which has this number
abbrev pub numbered : Place → ℕ → List Term → List Cursor
numbered p i [] = []
numbered p i (e ∷ es) = cursor_of (below p i) e ∷ numbered p (i + 1) es

-- the children from a number on
abbrev pub children_from : Place → ℕ → List Cursor
children_from p i = numbered p i (drop i (terms_below p))

-- the children before a number, the nearest first
abbrev pub children_before : Place → ℕ → List Cursor
children_before p zero = []
children_before p (suc i) = cons_option (cursor_at (below p i)) (children_before p i)

-- all children, in order
abbrev pub children : Place → List Cursor
children p = children_from p 0

-- all children, the last first
abbrev pub children_back : Place → List Cursor
children_back p = children_before p (length (terms_below p))

-- the siblings after a place, in order
abbrev pub siblings_after : Place → List Cursor
siblings_after p = after_by p.root p.up
  where
    after_by : Tree → List ℕ → List Cursor
    after_by root [] = []
    after_by root (i ∷ up) = children_from (record { root = root; up = up }) (i + 1)

-- the siblings before a place, the nearest first
abbrev pub siblings_before : Place → List Cursor
siblings_before p = before_by p.root p.up
  where
    before_by : Tree → List ℕ → List Cursor
    before_by root [] = []
    before_by root (i ∷ up) = children_before (record { root = root; up = up }) i

-- the nodes among these
abbrev pub nodes : List Cursor → List Place
nodes cs = filter_map node_part cs

-- the tokens among these
abbrev pub tokens : List Cursor → List Place
tokens cs = filter_map token_part cs

-- the first of a list, if it has one
abbrev pub first : {A : Type 0} → List A → Option A
first [] = None
first (x ∷ xs) = Some x

-- a place and those above it, up to the root
abbrev pub ancestors : Place → List Place
ancestors p = ancestors_by p.root p.up
  where
    ancestors_by : Tree → List ℕ → List Place
    ancestors_by root [] = record { root = root; up = [] } ∷ []
    ancestors_by root (i ∷ up) = record { root = root; up = i ∷ up } ∷ ancestors_by root up

-- those of a place, if there is one
abbrev pub ancestors_of : Option Place → List Place
ancestors_of None = []
ancestors_of (Some p) = ancestors p

-- those of a node; those of a token's parent
abbrev pub element_ancestors : Cursor → List Place
element_ancestors (Node p) = ancestors p
element_ancestors (Token p) = ancestors_of (above p)

-- an element and its siblings after it, or before it, the nearest first
abbrev pub siblings : Direction → Cursor → List Cursor
siblings Next c = c ∷ siblings_after (place_in c)
siblings Prev c = c ∷ siblings_before (place_in c)

-- a node and its sibling nodes after it, or before it, the nearest first
abbrev pub sibling_nodes : Direction → Place → List Place
sibling_nodes Next p = p ∷ nodes (siblings_after p)
sibling_nodes Prev p = p ∷ nodes (siblings_before p)
