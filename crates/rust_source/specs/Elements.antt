-- What a tool may say of elements.
use Rattle.std.specs.Prelude.{ℕ, List, [], ◌∷◌, Option, None, Some, if◌then◌else◌}
use Rattle.rowan_green.specs.Forest.{Tree}
use Rattle.rowan_green.specs.declared.utility_types.NodeOrToken.TheVariants.{Node}
pub use Rattle.parser_input.specs.Kinds.{ARG_LIST, ATTR, BIN_EXPR, FN, PATH, PATH_EXPR, RET_TYPE, STMT_LIST, VISIBILITY}
pub use Rattle.rowan.specs.Place.{index_of, text_at}
use Rattle.rowan.specs.Place.{kind_at}
use Rattle.rowan.specs.Walk.{walk}
use Rattle.parser_input.specs.Kind.{raw_of}
use Rattle.syntax_tree.specs.Language.{kind_of_raw}
pub use Rattle.syntax_tree.specs.Element.{Element, Way, element_at}
pub use Rattle.syntax_tree.specs.Handle.{element_of, parent_of}
pub use Rattle.syntax_tree.specs.Nodes.{child_nodes, is_of_kind, nodes_left, wanted_nodes}
pub use Rattle.typed_nodes.specs.Parts.{first_child_of}
pub use Rattle.rust_document.specs.Step.{State, root_element}

-- the number of an element's kind; that of `ERROR` if the raw number is not that of a kind
abbrev pub kind_of : Element → ℕ
kind_of e = raw_of (kind_of_raw (kind_at e.place))

-- a node and all nodes below it, in preorder
abbrev pub nodes_at : Element → List Element
nodes_at e = nodes_left (record { number = e.number; events = walk (Node e.place) })

-- the first of a node and those above it whose parent is of a kind
abbrev pub ancestor_below : ℕ → Element → Option Element
ancestor_below kind e = ancestor_by kind e.number e.place.root e.place.up
  where
    ancestor_by : ℕ → ℕ → Tree → Way → Option Element
    ancestor_by kind number root [] = None
    ancestor_by kind number root (i ∷ up) =
        if is_of_kind kind (element_at number root up) then Some (element_at number root (i ∷ up))
        else ancestor_by kind number root up
