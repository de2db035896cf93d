-- What of a tree rests on the parser's input alone.
use Rattle.std.specs.Prelude.{ℕ, ◌==◌, ◌||◌, Bool, not, List, [], ◌∷◌, if◌then◌else◌}
use Rattle.rowan_green.specs.Forest.{Forest, empty, node, leaf, Tree}
use Rattle.parser_input.specs.Kinds.{WHITESPACE, COMMENT, FLOAT_NUMBER}
use Rattle.parser_input.specs.Leaf.{Leaf}
use Rattle.parser_events.specs.Dress.{is_empty, from_dot}

-- elements by their kinds: leaves without their texts, and none for whitespace and comments
abbrev pub kinds_in : Forest → Forest
kinds_in empty = empty
kinds_in (node k f r) = node k (kinds_in f) (kinds_in r)
kinds_in (leaf l r) = let rest = kinds_in r in if l.kind == WHITESPACE || l.kind == COMMENT then rest else leaf (record { kind = l.kind; text = [] }) rest

-- a tree by its kinds
abbrev pub kinds_of : Tree → Tree
kinds_of t = record { kind = t.kind; forest = kinds_in t.forest }

-- a tree by its kinds, as the only element of a forest
abbrev pub kinds_from : Tree → Forest
kinds_from t = node t.kind (kinds_in t.forest) empty

unfoldable pub has_dot : List ℕ → Bool
has_dot text = not (is_empty (from_dot text))

-- which of the floats among these leaves hold a dot, in source order
unfoldable pub dots : List Leaf → List Bool
dots [] = []
dots (l ∷ ls) = let rest = dots ls in if l.kind == FLOAT_NUMBER then has_dot l.text ∷ rest else rest
