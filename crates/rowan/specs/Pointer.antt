-- Finding a node by its kind and its range.
use Rattle.std.specs.Prelude.{ℕ, Bool, ◌&&◌, nat_eq, nat_le, List, [], ◌∷◌, Option, Some, None, cond}
use Rattle.std.specs.List.{filter}
use Rattle.rowan_green.specs.Forest.{Tree}
use Rattle.rowan_green.specs.declared.utility_types.NodeOrToken.TheVariants.{Node}
use Rattle.rowan.specs.Place.{Place, kind_at, start_of, end_of}
use Rattle.rowan.specs.Around.{first}
use Rattle.rowan.specs.Walk.{walk, entered_nodes}

-- whether a node has this kind, as a language reads it, and goes from one offset to another
abbrev pub is_at : {K : Type 0} → (K → K → Bool) → (ℕ → K) → K → ℕ → ℕ → Place → Bool
is_at same from_raw k a b p = same (from_raw (kind_at p)) k && (nat_eq (start_of p) a && nat_eq (end_of p) b)

-- whether the range of a node contains the range from one offset to another
abbrev pub spans : ℕ → ℕ → Place → Bool
spans a b p = nat_le (start_of p) a && nat_le b (end_of p)

-- a node and all nodes below it, in preorder
abbrev pub nodes_in : Place → List Place
nodes_in p = entered_nodes (walk (Node p))

-- the first node in preorder that passes a test
abbrev pub first_in : (Place → Bool) → Place → Option Place
first_in t p = first (filter t (nodes_in p))

-- the first node that passes a test in the tree of a root; `None` if the place has a parent
abbrev pub found_in : (Place → Bool) → Place → Option Place
found_in t p = found_by t p.root p.up
  where
    found_by : (Place → Bool) → Tree → List ℕ → Option Place
    found_by t root [] = first_in t (record { root = root; up = [] })
    found_by t root (i ∷ up) = None

-- the first node in preorder of the tree of a root that has this kind and this range
abbrev pub pointed_at : {K : Type 0} → (K → K → Bool) → (ℕ → K) → K → ℕ → ℕ → Place → Option Place
pointed_at same from_raw k a b root = found_in (is_at same from_raw k a b) root

-- a place where it passes a test
abbrev pub taken : (Place → Bool) → Option Place → Option Place
taken t None = None
taken t (Some p) = cond (t p) (Some p) None
