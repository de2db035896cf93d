-- A text in which the identifiers with one name have another one.
use Rattle.std.specs.Prelude.{ℕ, Bool, false, List, [], ◌++◌, if◌then◌else◌}
use Rattle.rowan_green.specs.Forest.{Forest, empty, node, leaf, Tree}
use Rattle.rowan_green.specs.Leaf.{Leaf, same_leaf}
use Rattle.rowan.specs.Place.{kind_at, text_at}
use Rattle.parser_input.specs.Kinds.{IDENT}
use Rattle.syntax_tree.specs.declared.element.SyntaxElement.{SyntaxElement}
use Rattle.syntax_tree.specs.declared.element.SyntaxElement.TheVariants.{Node, Token}

-- the identifier with a name
abbrev pub identifier : List ℕ → Leaf
identifier name = record { kind = IDENT; text = name }

-- whether an element is the identifier with a name
abbrev pub is_named : List ℕ → SyntaxElement → Bool
is_named name (Node e) = false
is_named name (Token e) =
    same_leaf (record { kind = kind_at e.place; text = text_at e.place }) (identifier name)

-- the texts of all leaves, joined: of the identifiers `old` the text is `new`
abbrev pub renamed_leaves : (old new : List ℕ) → Forest → List ℕ
renamed_leaves old new empty = []
renamed_leaves old new (node k f r) = renamed_leaves old new f ++ renamed_leaves old new r
renamed_leaves old new (leaf l r) =
    (if same_leaf l (identifier old) then new else l.text) ++ renamed_leaves old new r

-- the text of a tree with the identifiers `old` renamed to `new`
abbrev pub renamed_text : (old new : List ℕ) → Tree → List ℕ
renamed_text old new t = renamed_leaves old new t.forest

-- the elements with the leaf `new` for each identifier `old`
abbrev pub renamed_forest : List ℕ → Leaf → Forest → Forest
renamed_forest old new empty = empty
renamed_forest old new (node k f r) = node k (renamed_forest old new f) (renamed_forest old new r)
renamed_forest old new (leaf l r) = leaf (if same_leaf l (identifier old) then new else l) (renamed_forest old new r)

-- the tree with the leaf `new` for each identifier `old`
abbrev pub renamed_tree : List ℕ → Leaf → Tree → Tree
renamed_tree old new t = record { kind = t.kind; forest = renamed_forest old new t.forest }
