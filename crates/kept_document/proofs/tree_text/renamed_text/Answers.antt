-- A node's children are entered, and left when none of them is left.
use Rattle.std.proofs.Common.{◌++◌, List, ℕ, ap, ◌∙◌}
use Rattle.std.specs.Prelude.{string_bytes}
use Rattle.rust_document.proofs.OpenTexts.{entered-steps, left-steps}
use Rattle.kept_document.proofs.RenamedTexts.{begun-shown, entered-shown, left-shown}
use Rattle.kept_document.proofs.tree_text.renamed_text.Goals as goal

pub elements-init : goal.elements-init
elements-init c =
    begun-shown c.args.old.now c.args.new.now c.args.tree.now _ _ _ c.in_ok-text.ensures.bytes c.children-children.ensures.children c.new-above.ensures.items

pub elements-smaller-in-Some-Node : goal.elements-smaller-in-Some-Node
elements-smaller-in-Some-Node c =
    entered-steps _ _ _ _ _ _ _ c.in-Some-Node.ensures.steps c.in-Some-Node.field-0-is c.children-children-in-Some-Node.ensures.children c.in_ok-push-in-Some-Node.ensures.items

pub elements-preserved-in-Some-Node : goal.elements-preserved-in-Some-Node
elements-preserved-in-Some-Node c =
    ap (λ (s : List ℕ). string_bytes c.elements.text ++ s)
    (entered-shown c.args.old.now c.args.new.now _ _ _ _ _ _ _ c.in-Some-Node.ensures.steps c.in-Some-Node.field-0-is c.children-children-in-Some-Node.ensures.children c.in_ok-push-in-Some-Node.ensures.items)
    ∙ c.elements.invariant

pub elements-smaller : goal.elements-smaller
elements-smaller c = left-steps _ _ _ _ c.in-None.ensures.steps.0 c.in-Some.ensures.items

pub elements-preserved : goal.elements-preserved
elements-preserved c =
    ap (λ (s : List ℕ). string_bytes c.elements.text ++ s) (left-shown c.args.old.now c.args.new.now _ _ _ _ c.in-None.ensures.steps.0 c.in-Some.ensures.items)
    ∙ c.elements.invariant
