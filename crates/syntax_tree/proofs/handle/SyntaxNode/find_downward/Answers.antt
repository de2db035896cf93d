-- Each step goes down to the first child that contains the range, in which alone an element can be that has it.
use Rattle.std.proofs.Common.{◌≡◌, ◌∙◌, sym, ap, ℕ, ◌<◌, false, true, Some}
use Rattle.rowan.specs.Place.{Place}
use Rattle.syntax_tree.specs.Handle.{element_of}
use Rattle.syntax_tree.specs.Search.{is_of, first_of, child_holding}
use Rattle.syntax_tree.specs.declared.element.SyntaxElement.{SyntaxElement}
use Rattle.syntax_tree.specs.declared.element.SyntaxElement.TheVariants.{Node}
use Rattle.syntax_tree.specs.Element.{Element}
use Rattle.syntax_tree.proofs.Descents.{found_from, found_here, found_nowhere, child_of, ChildOf}
use Rattle.syntax_tree.proofs.handle.SyntaxNode.find_downward.Goals as goal

pub loop-alloc-init : goal.loop-alloc-init
loop-alloc-init c =
    let kind = c.to_raw-kind.result in
    let a = c.args.range.start.0 in
    let b = c.args.range.end.0 in
    ap (λ (e : Element). found_from kind a b (Node e)) (sym c.in_ok-clone.ensures.cases)

pub returns-in_default : goal.returns-in_default
returns-in_default c =
    let kind = c.to_raw-kind.result in
    let a = c.args.range.start.0 in
    let b = c.args.range.end.0 in
    let other : is_of kind a b (element_of c.loop-alloc.element).place ≡ false = sym c.is_of.ensures ∙ c.loop-alloc-test.true in
    sym (c.loop-alloc.invariant ∙ found_nowhere kind a b c.requires c.loop-alloc.element other (sym c.in_ok-child.ensures ∙ c.in_default.is))
    ∙ ap (λ (k : ℕ). first_of k a b c.args.self.now) c.to_raw-kind.ensures.number

child : (c : goal.Joined-element-3) → ChildOf c.to_raw-kind.result c.args.range.start.0 c.args.range.end.0 c.loop-alloc.element c.in-Some.child
child c =
    let kind = c.to_raw-kind.result in
    let a = c.args.range.start.0 in
    let b = c.args.range.end.0 in
    let other : is_of kind a b (element_of c.loop-alloc.element).place ≡ false = sym c.is_of.ensures ∙ c.loop-alloc-test.true in
    child_of kind a b c.requires c.loop-alloc.element c.in-Some.child other (sym c.in_ok-child.ensures ∙ c.in-Some.is)

pub loop-alloc-smaller : goal.loop-alloc-smaller
loop-alloc-smaller c = let it = child c in it.below

pub loop-alloc-preserved : goal.loop-alloc-preserved
loop-alloc-preserved c = let it = child c in c.loop-alloc.invariant ∙ it.same

pub returns : goal.returns
returns c =
    let kind = c.to_raw-kind.result in
    let a = c.args.range.start.0 in
    let b = c.args.range.end.0 in
    let one : is_of kind a b (element_of c.loop-alloc.element).place ≡ true = sym c.is_of.ensures ∙ c.loop-alloc-test.false in
    sym (c.loop-alloc.invariant ∙ found_here kind a b c.loop-alloc.element one)
    ∙ ap (λ (k : ℕ). first_of k a b c.args.self.now) c.to_raw-kind.ensures.number
