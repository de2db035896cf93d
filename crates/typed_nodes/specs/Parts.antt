-- The parts of a node: its children, by their kinds and by what is before them.
use Rattle.std.specs.Prelude.{ℕ, Bool, false, List, [], ◌∷◌, map, Option, option_map, if◌then◌else◌}
use Rattle.std.specs.List.{filter, filter_map}
use Rattle.rowan.specs.Around.{children, first, nodes}
use Rattle.syntax_tree.specs.Element.{Element}
use Rattle.syntax_tree.specs.Handle.{node_of, with_cursor, with_place}
use Rattle.syntax_tree.specs.Nodes.{child_nodes, is_of_kind}
use Rattle.syntax_tree.specs.declared.element.SyntaxElement.{SyntaxElement}
use Rattle.syntax_tree.specs.declared.element.SyntaxElement.TheVariants.{Node, Token}

-- the first child node of a kind
abbrev pub first_child_of : ℕ → Element → Option Element
first_child_of kind e = first (filter (is_of_kind kind) (child_nodes e))

-- the first child node
abbrev pub first_child : Element → Option Element
first_child e = option_map (with_place e) (first (nodes (children e.place)))

-- the children of a node, nodes and tokens
abbrev pub elements_below : Element → List SyntaxElement
elements_below e = map (with_cursor e.number) (children e.place)

-- true if the element is a token of this kind
abbrev pub is_token_of : ℕ → SyntaxElement → Bool
is_token_of kind (Node e) = false
is_token_of kind (Token e) = is_of_kind kind e

-- the elements after the first token of a kind
abbrev pub after_token : ℕ → List SyntaxElement → List SyntaxElement
after_token kind [] = []
after_token kind (x ∷ xs) = if is_token_of kind x then xs else after_token kind xs

-- the first node among some elements
abbrev pub first_node : List SyntaxElement → Option Element
first_node xs = first (filter_map node_of xs)

-- the first child node after the first child token of a kind
abbrev pub node_after : ℕ → Element → Option Element
node_after kind e = first_node (after_token kind (elements_below e))
