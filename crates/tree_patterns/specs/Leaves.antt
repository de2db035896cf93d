-- The leaves of a tree.
use Rattle.std.specs.Prelude.{List, [], ◌∷◌, ◌++◌}
use Rattle.rowan_green.specs.Forest.{Forest, empty, node, leaf}
use Rattle.rowan_green.specs.Leaf.{Leaf}

-- the leaves of a forest, in order
abbrev pub leaves : Forest → List Leaf
leaves empty = []
leaves (node k f r) = leaves f ++ leaves r
leaves (leaf l r) = l ∷ leaves r
