-- Indented and dedented trees.
use Rattle.std.specs.Prelude.{ℕ, ◌*◌, List, [], ◌∷◌, ◌++◌, drop, ◌&&◌, ◌==◌, nat_eq, if◌then◌else◌}
use Rattle.std.specs.List.{list_any, starts_with}
use Rattle.parser_input.specs.Kinds.{WHITESPACE}
use Rattle.rowan_green.specs.Forest.{Forest, empty, node, leaf, Tree}
use Rattle.rowan_green.specs.Leaf.{Leaf}
use Rattle.rowan_green.specs.Term.{terms, FitsNode, FitsToken}
use Rattle.syntax_editor.specs.Indent.{line_feed, spaces}
use Rattle.tree_indent.specs.declared.shift.Shift.{Shift}
use Rattle.tree_indent.specs.declared.shift.Shift.TheVariants.{In, Out}

-- ---- texts

-- indented by level `n`: the spaces of the level are appended to a text that contains a line feed
abbrev pub set_in : ℕ → List ℕ → List ℕ
set_in n text = if list_any (λ c. c == line_feed) text then text ++ spaces n else text

-- dedented by level `n`: the spaces of the level are removed after each line feed that they follow
abbrev pub set_out : ℕ → List ℕ → List ℕ
set_out n [] = []
set_out n (c ∷ cs) = c ∷ (if c == line_feed && starts_with nat_eq cs (spaces n) then drop (n * 4) (set_out n cs) else set_out n cs)

abbrev pub shifted_text : Shift → List ℕ → List ℕ
shifted_text (In level) text = set_in level.0 text
shifted_text (Out level) text = set_out level.0 text

-- ---- trees

-- only whitespace changes
abbrev pub shifted_leaf : Shift → Leaf → Leaf
shifted_leaf s l = if l.kind == WHITESPACE then record { kind = l.kind; text = shifted_text s l.text } else l

abbrev pub shifted_forest : Shift → Forest → Forest
shifted_forest s empty = empty
shifted_forest s (node k f r) = node k (shifted_forest s f) (shifted_forest s r)
shifted_forest s (leaf l r) = leaf (shifted_leaf s l) (shifted_forest s r)

-- with each leaf shifted
abbrev pub shifted_tree : Shift → Tree → Tree
shifted_tree s t = record { kind = t.kind; forest = shifted_forest s t.forest }

-- ---- size limits

-- each token can have its text, each node its children
abbrev pub FitsForest : Forest → Type 0
FitsForest empty = Unit {0}
FitsForest (node k f r) = FitsNode (terms f) × FitsForest f × FitsForest r
FitsForest (leaf l r) = FitsToken l.text × FitsForest r

abbrev pub FitsTree : Tree → Type 0
FitsTree t = FitsNode (terms t.forest) × FitsForest t.forest
