-- Whitespace by the child before a gap.
use Rattle.std.proofs.Common.{◌≡◌, ◌≢◌, ℕ, zero, suc, ◌-◌, false, cond, Some, refl, ap, ◌∙◌, arith}
use Rattle.std.specs.Option.{option_map_or}
use Rattle.rowan.specs.Place.{kind_at}
use Rattle.syntax_tree.specs.Element.{Element}
use Rattle.syntax_tree.specs.declared.element.SyntaxElement.{SyntaxElement}
use Rattle.syntax_editor.specs.Between.{kind_of, between}
use Rattle.syntax_editor.specs.Spaced.{begins_line, child, inner_line, space_between, space_before}
use Rattle.syntax_editor.specs.declared.whitespace.Space.TheVariants.{Nothing}

-- after the child before the gap
pub space_before-after_child : (p : Element) (i : ℕ) (e : SyntaxElement) → i ≢ 0 → space_before p i e ≡ option_map_or (λ previous. space_between p previous e) (child p (i - 1)) Nothing
space_before-after_child p zero e h = absurd (h refl)
space_before-after_child p (suc i) e h =
    let less : i ≡ suc i - 1 = omega arith in
    ap (λ (k : ℕ). option_map_or (λ previous. space_between p previous e) (child p k) Nothing) less

-- where the element begins no line there
pub space_before-apart :
    (p : Element) (i : ℕ) (e previous : SyntaxElement) → i ≢ 0 → child p (i - 1) ≡ Some previous
    → begins_line (kind_at p.place) (kind_of previous) (kind_of e) ≡ false → space_before p i e ≡ between previous e
space_before-apart p i e previous h stands apart =
    space_before-after_child p i e h
    ∙ ap (λ o. option_map_or (λ q. space_between p q e) o Nothing) stands
    ∙ ap (λ b. cond b (inner_line p) (between previous e)) apart
