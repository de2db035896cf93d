-- What an editor's recorded changes make of a tree, and when that is faithful to its own text.
use Rattle.std.specs.Prelude.{ℕ, ◌==◌, ◌||◌, List, map, if◌then◌else◌}
use Rattle.rowan_green.specs.Forest.{Forest, empty, node, leaf, Tree}
use Rattle.parser_input.specs.Kinds.{WHITESPACE, COMMENT}
use Rattle.rowan.specs.Place.{Place, start_of, end_of}
use Rattle.syntax_tree.specs.Element.{Way}
use Rattle.tree_rewrite.specs.Changed.{changed_at}
use Rattle.tree_rewrite.specs.Marked.{forest_in}
use Rattle.syntax_editor.specs.Again.{found_again}
use Rattle.syntax_editor.specs.Editing.{Editing}
use Rattle.syntax_editor.specs.Rewriting.{rewriting}
use Rattle.rust_document.specs.Reading.{root_of}

-- the tree with all recorded changes applied
abbrev pub rewritten : Editing → Tree
rewritten e = root_of (forest_in (rewriting e))

-- the ranges in the new text that outermost changes inserted, in the order of the tree
abbrev pub changed : Editing → List (ℕ × ℕ)
changed e = changed_at (rewriting e) 0

-- the bytes of the element at a place, and at an up-path in a tree
abbrev pub bytes_at : Place → ℕ × ℕ
bytes_at p = (start_of p, end_of p)

abbrev pub bounds_at : Tree → Way → ℕ × ℕ
bounds_at t w = bytes_at (record { root = t; up = w })

-- the ranges in the new text of the elements that come from annotated ones, with the numbers of their annotations, by order of annotation,
-- then of the tree
abbrev pub annotated : Editing → List ((ℕ × ℕ) × ℕ)
annotated e = map (λ x. (bounds_at (rewritten e) x.0, x.1)) (found_again e)

-- the elements without the leaves that are whitespace or comments
abbrev pub bare : Forest → Forest
bare empty = empty
bare (node k f r) = node k (bare f) (bare r)
bare (leaf l r) = let rest = bare r in if l.kind == WHITESPACE || l.kind == COMMENT then rest else leaf l rest
