-- Nodes that are found again in a new tree.
use Rattle.std.specs.Prelude.{ℕ, ◌==◌, Bool, false, ◌&&◌, List, Option, find}
use Rattle.rowan.specs.Place.{kind_at, start_of}
use Rattle.syntax_tree.specs.Element.{Element}
use Rattle.syntax_tree.specs.Search.{elements}
use Rattle.syntax_tree.specs.declared.element.SyntaxElement.{SyntaxElement}
use Rattle.syntax_tree.specs.declared.element.SyntaxElement.TheVariants.{Node, Token}

-- a node of a kind that begins at an offset
abbrev pub is_node_of : ℕ → ℕ → SyntaxElement → Bool
is_node_of kind start (Node e) = kind_at e.place == kind && start_of e.place == start
is_node_of kind start (Token e) = false

-- the first such node among some
abbrev pub node_in : ℕ → ℕ → List SyntaxElement → Option SyntaxElement
node_in kind start es = find (is_node_of kind start) es

-- the first node in preorder, at and below this root, of the old node's kind and start
abbrev pub found : Element → Element → Option SyntaxElement
found root old = node_in (kind_at old.place) (start_of old.place) (elements root)
