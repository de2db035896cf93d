-- What a text is as one node.
use Rattle.std.specs.Prelude.{◌≡◌, ℕ, ◌+◌, ◌≤◌, ◌==◌, List, [], ◌∷◌, ◌++◌, map, find, codes, Option, Some, None}
use Rattle.std.specs.List.{filter_map}
use Rattle.rowan_green.specs.Forest.{Tree}
use Rattle.rowan.specs.Place.{kind_at}
use Rattle.rowan.specs.Around.{children, nodes}
use Rattle.syntax_tree.specs.Element.{Element, element_at}
use Rattle.syntax_tree.specs.Handle.{node_of, with_place}
use Rattle.syntax_tree.specs.Search.{elements}
use Rattle.syntax_tree.specs.declared.element.SyntaxElement.{SyntaxElement}
use Rattle.parser_input.specs.declared.edition.Edition.{Edition}
use Rattle.ra_parser.specs.declared.entry_points.TopEntryPoint.TheVariants as entries
use Rattle.ra_parser.specs.declared.grammar.Grammar.{Grammar}
use Rattle.rust_document.specs.Payload.{Payload, Whole, RefusesPayload, payload_in}
use Rattle.rust_document.specs.declared.payload_entry.PayloadEntry.TheVariants.{Top}
use Rattle.rust_document.specs.declared.error.PayloadError.TheVariants as payloads
use Rattle.rust_source.specs.declared.error.NodeError.{NodeError}
use Rattle.rust_source.specs.declared.error.NodeError.TheVariants as errors

-- ---- which node of a tree

-- the root of a payload's tree under a number
abbrev pub root_of : ℕ → Tree → Element
root_of number t = element_at number t []

-- the children of a root that are nodes
abbrev pub top_nodes : Element → List Element
top_nodes root = map (with_place root) (nodes (children root.place))

-- the one of a list with one element
abbrev pub only : List Element → Option Element
only [] = None
only (e ∷ []) = Some e
only (e ∷ (d ∷ es)) = None

-- the only child of the root that is a node
abbrev pub only_node : ℕ → Tree → Option Element
only_node number t = only (top_nodes (root_of number t))

-- the first node of a kind among some elements
abbrev pub first_of_kind : ℕ → List SyntaxElement → Option Element
first_of_kind kind es = find (λ e. kind_at e.place == kind) (filter_map node_of es)

-- the first node of a kind in preorder, the root among them
abbrev pub first_node : ℕ → ℕ → Tree → Option Element
first_node kind number t = first_of_kind kind (elements (root_of number t))

-- what a text is as items, as statements, and as an expression
abbrev pub items_payload : Grammar → Edition → List ℕ → Payload
items_payload grammar edition text = payload_in (Top entries.MacroItems) grammar edition text

abbrev pub statements_payload : Grammar → Edition → List ℕ → Payload
statements_payload grammar edition text = payload_in (Top entries.MacroStmts) grammar edition text

abbrev pub expression_payload : Grammar → Edition → List ℕ → Payload
expression_payload grammar edition text = payload_in (Top entries.Expr) grammar edition text

-- an attribute is read before an item
abbrev pub attribute_text : List ℕ → List ℕ
attribute_text text = text ++ codes " struct S;"

-- what a text is as the attribute of an item
abbrev pub attribute_payload : Grammar → Edition → List ℕ → Payload
attribute_payload grammar edition text = payload_in (Top entries.SourceFile) grammar edition (attribute_text text)

-- ---- which text has the node

-- the tree of a payload has the node
abbrev pub IsFound : (ℕ → Tree → Option Element) → ℕ → Payload → Element → Type 0
IsFound sought number (Whole t) n = sought number t ≡ Some n
IsFound sought number p n = ⊥

-- the text is no payload
abbrev pub RefusesRoot : ℕ → Payload → NodeError → Type 0
RefusesRoot number p (errors.Payload e) = RefusesPayload number p e
RefusesRoot number p errors.NotOneNode = ⊥

-- the text is no payload, or its tree has no such node
abbrev pub RefusesNode : (ℕ → Tree → Option Element) → ℕ → Payload → NodeError → Type 0
RefusesNode sought number p (errors.Payload e) = RefusesPayload number p e
RefusesNode sought number (Whole t) errors.NotOneNode = sought number t ≡ None
RefusesNode sought number p errors.NotOneNode = ⊥

-- a search in a tree fails: there is no such node; out of memory at any point
abbrev pub LacksNode : Option Element → NodeError → Type 0
LacksNode o errors.NotOneNode = o ≡ None
LacksNode o (errors.Payload payloads.NoMemory) = Unit {0}
LacksNode o (errors.Payload e) = ⊥

abbrev pub no_memory : NodeError
no_memory = errors.Payload payloads.NoMemory

-- at most one tree number is used up
abbrev pub IsSpentOnce : ℕ → ℕ → Type 0
IsSpentOnce old new = (old ≤ new) × (new ≤ old + 1)
