-- Models of node, token and element handles.
use Rattle.std.specs.Prelude.{ℕ, List, map, Option, Some, None, option_map}
use Rattle.rowan_green.specs.Either.{either}
use Rattle.rowan_green.specs.declared.utility_types.NodeOrToken.TheVariants as cursors
use Rattle.rowan.specs.Place.{Place, above}
use Rattle.rowan.specs.Around.{Cursor}
use Rattle.rowan.specs.Walk.{Event, entered}
use Rattle.syntax_tree.specs.Element.{Way, Element, element_at, term_of}
use Rattle.syntax_tree.specs.declared.element.SyntaxElement.{SyntaxElement}
use Rattle.syntax_tree.specs.declared.element.SyntaxElement.TheVariants.{Node, Token}

abbrev pub element_of : SyntaxElement → Element
element_of (Node e) = e
element_of (Token e) = e

-- the node, if it is one
abbrev pub node_of : SyntaxElement → Option Element
node_of (Node e) = Some e
node_of (Token e) = None

-- the token, if it is one
abbrev pub token_of : SyntaxElement → Option Element
token_of (Node e) = None
token_of (Token e) = Some e

-- its place, as a node or a token
abbrev pub cursor_of : SyntaxElement → Cursor
cursor_of (Node e) = cursors.Node e.place
cursor_of (Token e) = cursors.Token e.place

-- the element at a place of the tree with this number
abbrev pub with_number : ℕ → Place → Element
with_number n p = record { number = n; place = p }

-- the element at another place of its tree
abbrev pub with_place : Element → Place → Element
with_place e p = with_number e.number p

-- the node or token at a cursor into the tree with this number
abbrev pub with_cursor : ℕ → Cursor → SyntaxElement
with_cursor n c = either (λ p. Node (with_number n p)) (λ p. Token (with_number n p)) c

-- a walk through the tree with this number: the remaining events
pub record Walk : Type 0 where
  pub number : ℕ
  pub events : List Event

-- the elements that the walk still enters
abbrev pub elements_left : Walk → List SyntaxElement
elements_left w = map (with_cursor w.number) (entered w.events)

-- the parent
abbrev pub parent_of : Element → Option Element
parent_of e = option_map (with_place e) (above e.place)

-- the element of the same tree at an up-path, if any
abbrev pub standing_at : Element → Way → Option Element
standing_at e w = let q = element_at e.number e.place.root w in option_map (λ _. q) (term_of q)
