-- The token that is found stands in the tree.
use Rattle.std.proofs.Common.{◌≡◌, Bool, true, false, not, refl, sym, ap, ◌∙◌}
use Rattle.std.proofs.lemmas.Bool.{eqb-true}
use Rattle.std.proofs.lemmas.Slice.Eq.{bytes_eq-Decides}
use Rattle.syntax_tree.specs.Handle.{element_of}
use Rattle.syntax_tree.specs.declared.element.SyntaxElement.{SyntaxElement}
use Rattle.rust_document.proofs.FoundElements.{first-root}
use Rattle.rust_document.proofs.NameEdits.{name-replaced}
use Rattle.rust_document.proofs.name_edit.with_name.Goals as goal

holds : (b : Bool) → not b ≡ false → b ≡ true
holds true h = refl
holds false h = absurd (let z : true ≡ false = h in cc)

pub returns : goal.returns
returns c =
    let p = c.in-Some-Token.token.place in
    name-replaced c.with_identifier.result p c.args.root.now.place.root c.args.range.start.0 c.args.names.now c.with_identifier.ensures
    (ap (λ (e : SyntaxElement). (element_of e).place.root) (sym c.in-Some-Token.field-0-is)
    ∙ first-root _ _ _ c.args.root.now _ (sym c.in_ok-token.ensures ∙ c.in-Some-Token.is))
    (sym c.text.ensures ∙ (bytes_eq-Decides c.text.result.now c.args.names.now.old.now).0 (holds _ (sym c.ne.ensures ∙ c.if-ne.false)))
    (sym c.text_range.ensures.start ∙ (let z : c.text_range.result.start.0 ≡ c.start.result.0 = cc in z)
    ∙ eqb-true c.start.result.0 c.start-else-ne.result.0 (holds _ (sym c.ne-else-ne.ensures ∙ c.if-ne-2.false))
    ∙ (let z : c.start-else-ne.result.0 ≡ c.args.range.start.0 = cc in z))
