-- The ranges of annotated elements, by where these stand in the rewritten tree.
use Rattle.std.proofs.Common.{◌≡◌, ℕ, List, [], map, ap, sym, ◌∙◌}
use Rattle.std.proofs.lemmas.Simd.{map-map}
use Rattle.rowan_green.specs.Forest.{Tree}
use Rattle.rowan.specs.Place.{start_of, end_of}
use Rattle.syntax_tree.specs.Element.{Way, element_at}
use Rattle.syntax_tree.specs.declared.element.SyntaxElement.{SyntaxElement}
use Rattle.tree_rewrite.specs.Fits.{IsNode}
use Rattle.annotated_elements.specs.Annotated as again
use Rattle.syntax_editor.specs.Again.{annotated_at, found_again, numbered}
use Rattle.syntax_editor.specs.Editing.{Annotated, Editing}
use Rattle.syntax_editor.specs.Inside as inside
use Rattle.syntax_editor.specs.Rewriting.{rewriting}
use Rattle.syntax_editor.specs.declared.annotation.SyntaxAnnotation.{SyntaxAnnotation}
use Rattle.rust_document.specs.Committed.{bounds_of}
use Rattle.rust_document.specs.Reading.{root_of}
use Rattle.rust_document.specs.Rewrite.{annotated, bounds_at, rewritten}

pub ranges-found : (e : Editing) (t : Tree) (n : ℕ) (found : List (SyntaxElement × SyntaxAnnotation)) → IsNode (rewriting e) t
    → map inside.annotated found ≡ map (annotated_at (element_at n t [])) (found_again e) → map bounds_of found ≡ annotated e
ranges-found e t n found is same =
    let bounds : Annotated → (ℕ × ℕ) × ℕ = λ a. ((start_of a.element.place, end_of a.element.place), a.annotation) in
    let in_tree : Tree → List ((ℕ × ℕ) × ℕ) = λ u. map (λ (x : Way × ℕ). (bounds_at u x.0, x.1)) (found_again e) in
    let own : rewritten e ≡ t = ap root_of is in
    sym (map-map bounds inside.annotated found)
    ∙ ap (map bounds) same
    ∙ map-map bounds (annotated_at (element_at n t [])) (found_again e)
    ∙ ap in_tree (sym own)

-- where no element is annotated
pub none-annotated : (e : Editing) → e.annotations ≡ [] → annotated e ≡ []
none-annotated e none =
    ap (λ (xs : List Annotated). map (λ (x : Way × ℕ). (bounds_at (rewritten e) x.0, x.1)) (again.annotated e.mapping (map numbered xs) (rewriting e))) none
