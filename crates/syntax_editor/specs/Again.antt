-- What is found again of annotated elements in the rewritten tree.
use Rattle.std.specs.Prelude.{ℕ, List, map}
use Rattle.syntax_tree.specs.Element.{Way, Element, element_at}
use Rattle.annotated_elements.specs.Annotated.{annotated}
use Rattle.syntax_editor.specs.Editing.{Editing, Annotated}
use Rattle.syntax_editor.specs.Rewriting.{rewriting}

-- an annotated element, with the number of its annotation
abbrev pub numbered : Annotated → Element × ℕ
numbered a = (a.element, a.annotation)

-- the paths in the rewritten tree of the elements that come from annotated ones, with the numbers of the annotations; by order of
-- annotation, then of the tree
abbrev pub found_again : Editing → List (Way × ℕ)
found_again e = annotated e.mapping (map numbered e.annotations) (rewriting e)

-- the element at such a path of a root's tree, with its annotation
abbrev pub annotated_at : Element → Way × ℕ → Annotated
annotated_at root x = record { annotation = x.1; element = element_at root.number root.place.root x.0 }
