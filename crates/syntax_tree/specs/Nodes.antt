-- Child nodes and tokens of one kind, and the nodes of a walk.
use Rattle.std.specs.Prelude.{ℕ, Bool, ◌==◌, List, map}
use Rattle.std.specs.List.{filter}
use Rattle.rowan.specs.Place.{kind_at}
use Rattle.rowan.specs.Around.{children, nodes, tokens}
use Rattle.rowan.specs.Walk.{entered_nodes}
use Rattle.syntax_tree.specs.Element.{Element}
use Rattle.syntax_tree.specs.Handle.{Walk, with_number, with_place}

-- the nodes that a walk still enters
abbrev pub nodes_left : Walk → List Element
nodes_left w = map (with_number w.number) (entered_nodes w.events)

-- true if the element is of this kind
abbrev pub is_of_kind : ℕ → Element → Bool
is_of_kind kind e = kind_at e.place == kind

-- the children of a node that are nodes, in order
abbrev pub child_nodes : Element → List Element
child_nodes e = map (with_place e) (nodes (children e.place))

-- the children of a node that are tokens, in order
abbrev pub child_tokens : Element → List Element
child_tokens e = map (with_place e) (tokens (children e.place))

-- child nodes, of which an iterator returns those of one kind
pub record Wanted : Type 0 where
  pub kind : ℕ
  pub nodes : List Element

-- the nodes of that kind
abbrev pub wanted_nodes : Wanted → List Element
wanted_nodes w = filter (is_of_kind w.kind) w.nodes
