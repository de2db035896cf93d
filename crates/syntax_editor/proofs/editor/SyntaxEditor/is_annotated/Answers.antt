-- The annotated elements are seen one by one.
use Rattle.std.proofs.Common.{◌≡◌, ℕ, ◌==◌, suc, arith, Bool, not, true, false, List, [], ◌∷◌, length, map, vec_len, refl, sym, ap, ◌∙◌}
use Rattle.std.proofs.lemmas.Bool.{eqb-true}
use Rattle.syntax_editor.specs.Editing.{Editing}
use Rattle.syntax_editor.specs.Inside as inside
use Rattle.syntax_tree.specs.declared.element.SyntaxElement.{SyntaxElement}
use Rattle.syntax_editor.specs.declared.annotation.SyntaxAnnotation.{SyntaxAnnotation}
use Rattle.syntax_editor.proofs.editor.SyntaxEditor.is_annotated.Goals as goal

un-not : (b : Bool) → not b ≡ false → b ≡ true
un-not true e = refl
un-not false e = absurd (let z : true ≡ false = e in cc)

none : (xs : List (SyntaxElement × SyntaxAnnotation)) → not (length xs == 0) ≡ false → map inside.annotated xs ≡ []
none [] e = refl
none (x ∷ xs) e = absurd (let z : suc (length xs) ≡ 0 = eqb-true (length (x ∷ xs)) 0 (un-not _ e) in cc)

some : (xs : List (SyntaxElement × SyntaxAnnotation)) → map inside.annotated xs ≡ [] → not (length xs == 0) ≡ false
some [] e = refl
some (x ∷ xs) e = absurd (let z : (inside.annotated x ∷ map inside.annotated xs) ≡ [] = e in cc)

pub returns : goal.returns
returns c =
    let held = c.self.inside.annotations.items in
    let same : map inside.annotated held ≡ c.args.self.now.annotations = ap (λ (e : Editing). e.annotations) c.self.view_is in
    let count : vec_len c.self.inside.annotations ≡ length held = omega arith in
    let told = ap not (c.is_empty.ensures ∙ ap (λ (n : ℕ). n == 0) count) in
    (λ e. sym same ∙ none held (sym told ∙ e), λ e. told ∙ some held (same ∙ e))
