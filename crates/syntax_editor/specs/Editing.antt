-- What contracts see of an editor.
use Rattle.std.specs.Prelude.{◌≡◌, ℕ, ◌+◌, ◌^◌, List, [], ◌∷◌, ◌++◌, Some}
use Rattle.rowan_green.specs.Forest.{Tree}
use Rattle.rowan_green.specs.declared.utility_types.NodeOrToken.TheVariants.{Node}
use Rattle.syntax_tree.specs.Element.{Way, Element, element_at, term_of}
use Rattle.syntax_tree.specs.Mapping.{Mapping}
use Rattle.tree_rewrite.specs.Change.{Change}
use Rattle.syntax_editor.specs.declared.make_error.MakeError.{MakeError}
use Rattle.syntax_editor.specs.declared.make_error.MakeError.TheVariants.{NoMemory, NoTreeNumber, TooLong}

-- an element with the number of an annotation
pub record Annotated : Type 0 where
  pub annotation : ℕ
  pub element : Element

-- the root of the tree that is edited; the changes, mapped nodes and annotated elements, the first recorded first
pub record Editing : Type 0 where
  pub top : Element
  pub changes : List Change
  pub mapping : Mapping
  pub annotations : List Annotated

-- an element with the annotation of a number
abbrev pub with_annotation : ℕ → Element → Annotated
with_annotation n e = record { annotation = n; element = e }

-- nothing is recorded
abbrev pub untouched : Element → Editing
untouched top = record { top = top; changes = []; mapping = []; annotations = [] }

abbrev pub with_changes : Editing → List Change → Editing
with_changes e cs = record { top = e.top; changes = cs; mapping = e.mapping; annotations = e.annotations }

-- with these annotated elements after its own
abbrev pub with_annotated : Editing → List Annotated → Editing
with_annotated e more = record { top = e.top; changes = e.changes; mapping = e.mapping; annotations = e.annotations ++ more }

-- a root is edited itself; of an inner node a copy is, as a new tree of this number
abbrev pub IsEdited : Element → ℕ → Element → Type 0
IsEdited e n top = is_edited e.place.up
  where
    is_edited : Way → Type 0
    is_edited [] = top ≡ e
    is_edited (i ∷ w) = (t : Tree) × (term_of e ≡ Some (Node t)) × (top ≡ element_at n t [])

-- the number that is next once an editor of this node was made
abbrev pub next_number : Way → ℕ → ℕ
next_number [] n = n
next_number (i ∷ w) n = n + 1

-- no editor of this node was made: `NoTreeNumber` only if it is an inner node and no number is left; `NoMemory` at any point; never `TooLong`
abbrev pub RefusesEditor : Way → ℕ → MakeError → Type 0
RefusesEditor w n NoMemory = Unit {0}
RefusesEditor [] n NoTreeNumber = ⊥
RefusesEditor (i ∷ w) n NoTreeNumber = n ≡ 2 ^ 32
RefusesEditor w n TooLong = ⊥

-- all that one has, and after it all that the other has
abbrev pub merged : Editing → Editing → Editing
merged e f = record {
  top = e.top;
  changes = e.changes ++ f.changes;
  mapping = e.mapping ++ f.mapping;
  annotations = e.annotations ++ f.annotations;
}
