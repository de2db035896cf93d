-- Annotations as the editor holds them, and by their numbers, lead to the same elements.
use Rattle.std.proofs.Common.{◌≡◌, ℕ, List, [], ◌∷◌, ◌++◌, map, refl, ap, sym, ◌∙◌}
use Rattle.std.proofs.lemmas.List.{map-append}
use Rattle.std.proofs.lemmas.Simd.{map-map}
use Rattle.syntax_tree.specs.Element.{Way, Element, element_at}
use Rattle.syntax_tree.specs.Handle.{element_of}
use Rattle.syntax_tree.specs.Mapping.{Mapping}
use Rattle.syntax_tree.specs.declared.element.SyntaxElement.{SyntaxElement}
use Rattle.tree_rewrite.specs.Marked.{Marked}
use Rattle.annotated_elements.specs.Annotated.{elements_at, elements_of}
use Rattle.annotated_elements.specs.Annotated as specs
use Rattle.annotated_elements.specs.Following.{followed}
use Rattle.annotated_elements.specs.Found.{found_if}
use Rattle.syntax_editor.specs.Again.{annotated_at, numbered}
use Rattle.syntax_editor.specs.Editing.{Annotated}
use Rattle.syntax_editor.specs.Inside.{annotated}
use Rattle.syntax_editor.specs.declared.annotation.SyntaxAnnotation.{SyntaxAnnotation}

by-numbers : (ms : Mapping) (xs : List (Element × SyntaxAnnotation)) (m : Marked)
    → specs.annotated ms (map (λ x. (x.0, x.1.number)) xs) m ≡ map (λ x. (x.0, x.1.number)) (specs.annotated ms xs m)
by-numbers ms [] m = refl
by-numbers ms (x ∷ xs) m =
    let ways : List Way = found_if m (followed ms x.0) in
    let with : Way → Way × SyntaxAnnotation = λ w. (w, x.1) in
    let numbers : Way × SyntaxAnnotation → Way × ℕ = λ y. (y.0, y.1.number) in
    ap (λ l. map (λ w. (w, x.1.number)) ways ++ l) (by-numbers ms xs m)
    ∙ ap (λ l. l ++ map numbers (specs.annotated ms xs m)) (sym (map-map numbers with ways))
    ∙ sym (map-append numbers (map with ways) (specs.annotated ms xs m))

pub seen-again : (ms : Mapping) (held : List (SyntaxElement × SyntaxAnnotation)) (found : List (SyntaxElement × SyntaxAnnotation)) (m : Marked) (root : Element)
    → elements_of found ≡ elements_at root (specs.annotated ms (elements_of held) m)
    → map annotated found ≡ map (annotated_at root) (specs.annotated ms (map numbered (map annotated held)) m)
seen-again ms held found m root is =
    let as_one : Element × SyntaxAnnotation → Annotated = λ x. record { annotation = x.1.number; element = x.0 } in
    let parts : SyntaxElement × SyntaxAnnotation → Element × SyntaxAnnotation = λ x. (element_of x.0, x.1) in
    let numbers : Way × SyntaxAnnotation → Way × ℕ = λ y. (y.0, y.1.number) in
    let own : Element × SyntaxAnnotation → Element × ℕ = λ y. (y.0, y.1.number) in
    let place : Way × SyntaxAnnotation → Element × SyntaxAnnotation = λ x. (element_at root.number root.place.root x.0, x.1) in
    let ways : List (Way × SyntaxAnnotation) = specs.annotated ms (elements_of held) m in
    let seen : map numbered (map annotated held) ≡ map own (elements_of held) = map-map numbered annotated held ∙ sym (map-map own parts held) in
    sym (map-map as_one parts found)
    ∙ ap (map as_one) is
    ∙ map-map as_one place ways
    ∙ sym (map-map (annotated_at root) numbers ways)
    ∙ ap (map (annotated_at root)) (sym (by-numbers ms (elements_of held) m))
    ∙ ap (λ xs. map (annotated_at root) (specs.annotated ms xs m)) (sym seen)
