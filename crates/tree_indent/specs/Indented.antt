-- Indented and dedented nodes, as new trees.
use Rattle.std.specs.Prelude.{◌≡◌, ℕ, ◌^◌, [], Option, Some}
use Rattle.rowan_green.specs.Forest.{Tree}
use Rattle.rowan_green.specs.Term.{Term}
use Rattle.rowan_green.specs.declared.utility_types.NodeOrToken.TheVariants.{Node}
use Rattle.syntax_tree.specs.Element.{Element, term_of, element_at}
use Rattle.syntax_tree.specs.declared.element.SyntaxElement.TheVariants as elements
use Rattle.syntax_editor.specs.Indent.{level_of}
use Rattle.syntax_editor.specs.declared.indent_level.IndentLevel.{IndentLevel}
use Rattle.syntax_editor.specs.declared.make_error.MakeError.{MakeError}
use Rattle.syntax_editor.specs.declared.make_error.MakeError.TheVariants.{NoMemory, NoTreeNumber, TooLong}
use Rattle.tree_indent.specs.Shifted.{shifted_tree, FitsTree}
use Rattle.tree_indent.specs.declared.shift.Shift.{Shift}

abbrev pub own_level : Element → IndentLevel
own_level e = record { 0 = level_of (elements.Node e) }

-- the root of a tree with this number: the shifted node
abbrev pub IsShifted : Shift → Element → ℕ → Element → Type 0
IsShifted s e n root = (t : Tree) × (term_of e ≡ Some (Node t)) × (root ≡ element_at n (shifted_tree s t) [])

-- the shifted node can be a tree
abbrev pub FitsTerm : Shift → Option Term → Type 0
FitsTerm s (Some (Node t)) = FitsTree (shifted_tree s t)
FitsTerm s _ = ⊥

abbrev pub FitsShifted : Shift → Element → Type 0
FitsShifted s e = FitsTerm s (term_of e)

-- `TooLong` only if the shifted node cannot be a tree; else `NoTreeNumber` only if no tree number is left; `NoMemory` at any point
abbrev pub RefusesShifted : Shift → Element → ℕ → MakeError → Type 0
RefusesShifted s e number NoMemory = Unit {0}
RefusesShifted s e number NoTreeNumber = FitsShifted s e × (number ≡ 2 ^ 32)
RefusesShifted s e number TooLong = FitsShifted s e → ⊥
