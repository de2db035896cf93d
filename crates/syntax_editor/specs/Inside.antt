-- Recorded changes: a model of the code.
use Rattle.std.specs.Prelude.{◌≡◌, List, [], map, Option, option_map, true}
use Rattle.syntax_tree.specs.Element.{Element, term_of}
use Rattle.syntax_tree.specs.Mapping.{Mapping}
use Rattle.syntax_tree.specs.Handle.{element_of}
use Rattle.syntax_tree.specs.declared.element.SyntaxElement.{SyntaxElement}
use Rattle.tree_rewrite.specs.Recorded.{recorded, IsOrdered, KeepsOneRoot}
use Rattle.tree_rewrite.specs.declared.change.Change as declared
use Rattle.tree_rewrite.specs.declared.change.Change.TheVariants.{Insert, Replace}
use Rattle.syntax_editor.specs.Editing.{Editing, Annotated}
use Rattle.syntax_editor.specs.Recording.{are_in_order, Recording, and_then, row_becomes, ranging}
use Rattle.syntax_editor.specs.declared.annotation.SyntaxAnnotation.{SyntaxAnnotation}

-- the element is one of the tree of this root
abbrev pub IsOf : Element → Element → Type 0
IsOf top e = (e.number ≡ top.number) × (e.place.root ≡ top.place.root)

-- what the change names is of this tree
abbrev pub IsOwn : Element → declared.Change → Type 0
IsOwn top (Insert p new) = IsOf top p.parent
IsOwn top (Replace first last new single) = IsOf top (element_of first) × IsOf top (element_of last)

-- the change is one that may be recorded on this tree
pub record IsSound (top : Element) (c : declared.Change) : Type 0 where
  pub own : IsOwn top c
  pub ordered : IsOrdered c
  pub keeps : KeepsOneRoot c

abbrev pub annotated : SyntaxElement × SyntaxAnnotation → Annotated
annotated a = record { annotation = a.1.number; element = element_of a.0 }

-- the element, if there is one
abbrev pub standing : Element → Option Element
standing e = option_map (λ _. e) (term_of e)

-- the ends of a range of siblings of this tree
pub record IsOwnRow (top first last : Element) : Type 0 where
  pub first_own : IsOf top first
  pub last_own : IsOf top last
  pub in_order : are_in_order first.place.up last.place.up ≡ true

-- these are the ends, in the edited tree, of the range that two handles name
pub record IsRow (e : Editing) (a b first last : Element) : Type 0 where
  pub own : IsOwnRow e.top first last
  pub becomes : (new : List Element) (alone : Recording) → ranging e a b new alone ≡ and_then e (row_becomes first last new)

-- what is seen of these changes of a tree
abbrev pub editing_of : Element → List declared.Change → Mapping → Editing
editing_of top cs ms = record { top = top; changes = map recorded cs; mapping = ms; annotations = [] }
