-- What a contract sees of a pattern.
use Rattle.std.specs.Prelude.{List, ◌++◌, map, is_some}
use Rattle.std.specs.List.{filter}
use Rattle.rowan_green.specs.Forest.{Tree}
use Rattle.rowan_green.specs.Leaf.{Leaf}
use Rattle.tree_patterns.specs.Leaves.{leaves}
use Rattle.tree_patterns.specs.Places.{place_of}
use Rattle.tree_patterns.specs.declared.fragment.Fragment.{Fragment}

-- What it was read as, and its tree: bones alone, with a leaf for each place, whose kind is the place's and whose text is the name
-- of its metavariable.
pub record Shape : Type 0 where
  pub fragment : Fragment
  pub tree : Tree

-- the leaves that stand for places, in order
abbrev pub places : Tree → List Leaf
places t = filter (λ l. is_some (place_of l.kind)) (leaves t.forest)
