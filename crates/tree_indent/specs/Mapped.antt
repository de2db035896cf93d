-- Indented nodes whose old child nodes are mapped to the new ones.
use Rattle.std.specs.Prelude.{◌≡◌, ℕ, ◌<◌, ◌^◌, List, length, map, codes}
use Rattle.std.specs.List.{zip}
use Rattle.rowan.specs.Around.{children, nodes}
use Rattle.syntax_tree.specs.Element.{Element}
use Rattle.syntax_tree.specs.Handle.{with_place}
use Rattle.syntax_tree.specs.Mapping.{Mapping}
use Rattle.syntax_tree.specs.declared.error.MappingError.{MappingError}
use Rattle.syntax_tree.specs.declared.error.MappingError.TheVariants as mappings
use Rattle.syntax_editor.specs.declared.make_error.MakeError.{MakeError}
use Rattle.syntax_editor.specs.declared.make_error.MakeError.TheVariants as makes
use Rattle.tree_indent.specs.Indented.{FitsShifted}
use Rattle.tree_indent.specs.declared.error.IndentError.{IndentError}
use Rattle.tree_indent.specs.declared.error.IndentError.TheVariants.{Order, NoMemory, NoTreeNumber, TooLong}
use Rattle.tree_indent.specs.declared.shift.Shift.{Shift}

-- the child nodes, in source order
abbrev pub child_nodes : Element → List Element
child_nodes e = map (with_place e) (nodes (children e.place))

-- each child node of one node with the child node of another at the same position
abbrev pub pairs_below : Element → Element → Mapping
pairs_below e root = zip (child_nodes e) (child_nodes root)

-- the number is greater than that of the tree of the node, unless the node has no child nodes
abbrev pub IsAfter : ℕ → Element → Type 0
IsAfter number e = 0 < length (child_nodes e) → e.number < number

-- as for the node alone; `Order` only if the number is not greater
abbrev pub RefusesMapped : Shift → Element → ℕ → IndentError → Type 0
RefusesMapped s e number Order = FitsShifted s e × (number < 2 ^ 32) × (IsAfter number e → ⊥)
RefusesMapped s e number NoMemory = Unit {0}
RefusesMapped s e number NoTreeNumber = FitsShifted s e × (number ≡ 2 ^ 32)
RefusesMapped s e number TooLong = FitsShifted s e → ⊥

-- the error of the node alone, as an error of the call with a mapping
abbrev pub of_make : MakeError → IndentError
of_make makes.NoMemory = NoMemory
of_make makes.NoTreeNumber = NoTreeNumber
of_make makes.TooLong = TooLong

-- the error of the mapping: there are as many new child nodes as old ones, so only the order can be wrong
abbrev pub of_mapping : MappingError → IndentError
of_mapping mappings.NotChild = Order
of_mapping mappings.MoreInputs = Order
of_mapping mappings.Order = Order
of_mapping mappings.NoMemory = NoMemory

abbrev pub indent_message : IndentError → List ℕ
indent_message Order = codes "the tree's number is not the greater one"
indent_message NoMemory = codes "out of memory"
indent_message NoTreeNumber = codes "no tree number is left"
indent_message TooLong = codes "too long"
