-- Annotated elements in a rewritten tree.
use Rattle.std.specs.Prelude.{List, [], ◌∷◌, ◌++◌, map}
use Rattle.syntax_tree.specs.Element.{Way, Element, element_at}
use Rattle.syntax_tree.specs.Handle.{element_of}
use Rattle.syntax_tree.specs.Mapping.{Mapping}
use Rattle.syntax_tree.specs.declared.element.SyntaxElement.{SyntaxElement}
use Rattle.tree_rewrite.specs.Marked.{Marked}
use Rattle.annotated_elements.specs.Following.{followed}
use Rattle.annotated_elements.specs.Found.{found_if}

-- each annotated element, followed to its end, gives the ways of the elements that came from there, by order of annotation, then of the tree
abbrev pub annotated : {A : Type 0} → Mapping → List (Element × A) → Marked → List (Way × A)
annotated ms [] m = []
annotated ms (x ∷ xs) m = map (λ w. (w, x.1)) (found_if m (followed ms x.0)) ++ annotated ms xs m

-- elements that are handed out, as what they stand for
abbrev pub elements_of : {A : Type 0} → List (SyntaxElement × A) → List (Element × A)
elements_of xs = map (λ x. (element_of x.0, x.1)) xs

-- the elements at these ways of a root's tree
abbrev pub elements_at : {A : Type 0} → Element → List (Way × A) → List (Element × A)
elements_at root xs = map (λ x. (element_at root.number root.place.root x.0, x.1)) xs
