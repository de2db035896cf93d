-- What holds of well-spaced trees.
use Rattle.std.specs.Prelude.{◌≡◌, true, false, List, chars, is_none, encode_utf8, if◌then◌else◌}
use Rattle.std.specs.List.{list_all}
use Rattle.rowan_green.specs.Forest.{Forest, empty, node, leaf, Tree, tree_text}
use Rattle.rowan_green.specs.Leaf.{Leaf}
use Rattle.parser_input.specs.Input.{input}
use Rattle.parser_input.specs.Kind.{is_trivia}
use Rattle.parser_input.specs.Leaf.{leaves}
use Rattle.parser_input.specs.Lexed.{lexed}
use Rattle.parser_input.specs.Lexed as lexed_leaves
use Rattle.parser_input.specs.declared.edition.Edition.{Edition}
use Rattle.parser_input.specs.Leaf as input_leaf
use Rattle.parser_events.specs.Forest as parser
use Rattle.core_language.specs.Language.{IsCoreFile}
use Rattle.plain_names.specs.Trees.{forest_by}
use Rattle.spaced_core.specs.WellSpaced.{AreSpaced, IsWellSpaced, leaves_of, shape}
use Rattle.spaced_core.specs.SpacedText.{AreRead, solid, text_of}

-- Spaced leaves are read from their text.
abbrev pub SpacedLeavesAreRead : Type 0
SpacedLeavesAreRead =
    (edition : Edition) (ls : List Leaf) → AreSpaced edition ls →
    AreRead edition (solid ls) (leaves edition (text_of ls))

-- the leaves of a tree's text
abbrev pub text_leaves : Edition → Tree → List input_leaf.Leaf
text_leaves edition t = lexed_leaves.leaves_of (lexed edition (chars (tree_text t)))

-- No leaf of the text of a well-spaced tree has a message.
abbrev pub WellSpacedLeavesAreSilent : Type 0
WellSpacedLeavesAreSilent =
    (edition : Edition) (t : Tree) → IsWellSpaced edition t →
    list_all (λ l. is_none l.message) (lexed edition (chars (tree_text t))) ≡ true

-- the tree in the parser's words
abbrev pub shape_of : Tree → parser.Forest
shape_of t = parser.Node t.kind (shape t.forest) parser.End

-- So are the leaves of a well-spaced tree: its text has no preface.
abbrev pub WellSpacedTextsHaveTheirLeaves : Type 0
WellSpacedTextsHaveTheirLeaves =
    (edition : Edition) (t : Tree) → IsWellSpaced edition t →
    AreRead edition (solid (leaves_of t.forest)) (text_leaves edition t)

-- The parser's input of a well-spaced tree's text is a core file with that tree.
abbrev pub WellSpacedTextsAreCore : Type 0
WellSpacedTextsAreCore =
    (edition : Edition) (t : Tree) → IsWellSpaced edition t →
    IsCoreFile (input false edition (text_leaves edition t)) (shape_of t)

-- the elements but for leaves that are whitespace or comments
abbrev pub without_trivia : Forest → Forest
without_trivia empty = empty
without_trivia (node k f r) = node k (without_trivia f) (without_trivia r)
without_trivia (leaf l r) = let rest = without_trivia r in if is_trivia l.kind then rest else leaf l rest

-- The tree dressed with the leaves of its text is the tree, whitespace and comments aside.
abbrev pub WellSpacedTreesAreDressed : Type 0
WellSpacedTreesAreDressed =
    (edition : Edition) (t : Tree) → IsWellSpaced edition t →
    without_trivia (forest_by encode_utf8 (shape_of t) (text_leaves edition t))
    ≡ without_trivia (node t.kind t.forest empty)
