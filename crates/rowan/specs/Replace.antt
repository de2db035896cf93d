-- Trees with one element replaced.
use Rattle.std.specs.Prelude.{ℕ, ◌+◌, List, [], ◌∷◌}
use Rattle.rowan_green.specs.Leaf.{Leaf}
use Rattle.rowan_green.specs.Forest.{Tree}
use Rattle.rowan_green.specs.Term.{Term, tree_of, spliced, FitsNode}
use Rattle.rowan_green.specs.declared.utility_types.NodeOrToken.TheVariants.{Node, Token}
use Rattle.rowan.specs.Place.{Place, terms_below, kind_at}

-- the children of a place with one replaced
abbrev pub with_child : Place → ℕ → Term → List Term
with_child p i e = spliced (terms_below p) i (i + 1) (e ∷ [])

-- the node at a place with one child replaced
abbrev pub put_in : Place → ℕ → Term → Tree
put_in p i e = tree_of (kind_at p) (with_child p i e)

-- a tree with the node replaced that a way up leads from
abbrev pub put : Tree → List ℕ → Tree → Tree
put root [] t = t
put root (i ∷ up) t = put root up (put_in (record { root = root; up = up }) i (Node t))

-- the node may have such a child
abbrev pub FitsIn : Place → ℕ → Term → Type 0
FitsIn p i e = FitsNode (with_child p i e)

-- each node above may have its new child
abbrev pub Fits : Tree → List ℕ → Tree → Type 0
Fits root [] t = Unit {0}
Fits root (i ∷ up) t = FitsIn (record { root = root; up = up }) i (Node t) × Fits root up (put_in (record { root = root; up = up }) i (Node t))

-- a tree with the token replaced that a way up leads from
abbrev pub put_token : Tree → List ℕ → Leaf → Tree
put_token root [] l = root
put_token root (i ∷ up) l = put root up (put_in (record { root = root; up = up }) i (Token l))

abbrev pub FitsWithToken : Tree → List ℕ → Leaf → Type 0
FitsWithToken root [] l = Unit {0}
FitsWithToken root (i ∷ up) l = FitsIn (record { root = root; up = up }) i (Token l) × Fits root up (put_in (record { root = root; up = up }) i (Token l))
