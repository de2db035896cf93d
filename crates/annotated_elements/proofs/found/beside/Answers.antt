use Rattle.std.proofs.Common.{map, ap, ◌∙◌}
use Rattle.syntax_tree.specs.Element.{Element, same_element, element_at}
use Rattle.syntax_tree.specs.Handle.{element_of, elements_left}
use Rattle.annotated_elements.proofs.PickLemmas.{picked-on}
use Rattle.annotated_elements.proofs.found.beside.Goals as goal

pub loop-element-preserved : goal.loop-element-preserved
loop-element-preserved c =
    let origin = element_of c.args.origin.now in
    let first = element_of c.in-Some-split_first.first.now in
    let others = c.in-Some-split_first.others.now in
    let entered = rw c.in_ok-element.was at c.in-Some.ensures.steps in
    let way = c.deref.ensures.value ∙ c.in_ok-way.ensures in
    let same = c.in_ok-is_there.ensures origin.place.root ∙ (λ i. same_element first (element_at (c.tree.ensures i) origin.place.root (way i))) in
    picked-on (λ (e : Element). same_element e origin) c.in_ok-is_there.is_there c.in_ok-element.element first
    c.push_if.new.to.items c.loop-element.found.items
    (elements_left c.next.new.self) (elements_left c.loop-element.left)
    (map element_of others) (map element_of c.loop-element.rest.now)
    c.in_ok-push_if.ensures same entered (ap (map element_of) c.in-Some-split_first.ensures.cases.0)
    ∙ c.loop-element.invariant
