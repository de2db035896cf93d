-- A tree as lines: an element each, a node before what it holds.
use Rattle.std.specs.Prelude.{ℕ, ◌+◌, List, [], ◌∷◌, ◌++◌, length, Option, Some, None, codes, slice_get}
use Rattle.std.specs.Fmt.{decimal}
use Rattle.parser_input.specs.Kind.{name_of}
use Rattle.parser_input.specs.declared.syntax_kind.SyntaxKind.{SyntaxKind}
use Rattle.parser_input.specs.KindTable.{all_kinds}
use Rattle.rowan_green.specs.Forest.{Forest, empty, node, leaf, Tree, forest_text}

-- what is no kind is named as an error
abbrev pub name_if_any : Option SyntaxKind → List ℕ
name_if_any None = codes "ERROR"
name_if_any (Some kind) = name_of kind

-- the name of the kind that a raw number stands for
unfoldable pub kind_name : ℕ → List ℕ
kind_name raw = name_if_any (slice_get all_kinds raw)

-- an element after a margin: its kind, where it starts, and the byte after it
abbrev pub line_of : List ℕ → ℕ → ℕ → ℕ → List ℕ
line_of margin kind start end = margin ++ (kind_name kind ++ (codes "@" ++ (decimal start ++ (codes ".." ++ decimal end))))

-- elements side by side from a byte on; what a node holds stands two spaces further in
abbrev pub lines_from : List ℕ → ℕ → Forest → List (List ℕ)
lines_from margin start empty = []
lines_from margin start (node kind children rest) =
    let end = start + length (forest_text children) in
    line_of margin kind start end ∷ lines_from (margin ++ codes "  ") start children ++ lines_from margin end rest
lines_from margin start (leaf l rest) =
    let end = start + length l.text in
    line_of margin l.kind start end ∷ lines_from margin end rest

abbrev pub tree_lines : Tree → List (List ℕ)
tree_lines t = lines_from [] 0 (node t.kind t.forest empty)
