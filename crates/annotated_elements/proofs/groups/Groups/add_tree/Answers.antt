use Rattle.std.proofs.Common.{List, ◌++◌, ◌∷◌, [], map, cond, refl, ap, sym, ◌∙◌, subst}
use Rattle.std.proofs.lemmas.List.{nil_from_length}
use Rattle.std.specs.List.{zip}
use Rattle.syntax_tree.specs.Element.{Element, same_element}
use Rattle.syntax_tree.specs.Handle.{element_of, elements_left}
use Rattle.syntax_tree.specs.Search.{elements}
use Rattle.syntax_tree.specs.declared.element.SyntaxElement.{SyntaxElement}
use Rattle.annotated_elements.specs.Found.{picked}
use Rattle.annotated_elements.specs.Groups.{IsGroup}
use Rattle.annotated_elements.proofs.PickLemmas.{picked-on, none-left, none-beside}
use Rattle.annotated_elements.proofs.groups.Groups.add_tree.Goals as goal

pub loop-element-init : goal.loop-element-init
loop-element-init c = λ e es old.
    let p = λ (o : Element). same_element o e in
    (es, old, ap (λ w. es ++ picked p (zip (elements_left w) (map element_of c.args.origins.now))) c.in_ok-left.ensures)

pub loop-element-preserved : goal.loop-element-preserved
loop-element-preserved c = λ e es old.
    let was = c.loop-element.invariant e es old in
    let p = λ (o : Element). same_element o e in
    let origin = element_of c.in-Some-split_first.origin.now in
    let element = c.in_ok-element.element in
    let others = c.in-Some-split_first.others.now in
    let entered = rw c.in_ok-element.was at c.in-Some.ensures.steps in
    let more = was.0 ++ cond (same_element origin e) (element ∷ []) [] in (
      more,
      c.in_ok-add.ensures e was.0 was.1,
      picked-on p (same_element origin e) element origin more was.0
          (elements_left c.next.new.self) (elements_left c.loop-element.left)
          (map element_of others) (map element_of c.loop-element.rest.now)
          refl refl entered (ap (map element_of) c.in-Some-split_first.ensures.cases.0)
          ∙ was.2,
    )

pub returns-in_default-split_first : goal.returns-in_default-split_first
returns-in_default-split_first c = λ e es old.
    let was = c.loop-element.invariant e es old in
    let p = λ (o : Element). same_element o e in
    let all = es ++ picked p (zip (elements c.args.root.now) (map element_of c.args.origins.now)) in
    let left = elements_left c.loop-element.left in
    let none = nil_from_length c.loop-element.rest.now c.in_default-split_first.ensures.cases in
    let is = none-beside p was.0 all left (ap (λ (l : List SyntaxElement). was.0 ++ picked p (zip left (map element_of l))) (sym none) ∙ was.2) in
    subst (λ l. IsGroup c.loop-element.self e l) is was.1

pub returns : goal.returns
returns c = λ e es old.
    let was = c.loop-element.invariant e es old in
    let p = λ (o : Element). same_element o e in
    let all = es ++ picked p (zip (elements c.args.root.now) (map element_of c.args.origins.now)) in
    let os = map element_of c.loop-element.rest.now in
    let none = c.in_default.ensures.steps.0 in
    let is = none-left p was.0 all os (ap (λ (l : List SyntaxElement). was.0 ++ picked p (zip l os)) (sym none) ∙ was.2) in
    subst (λ l. IsGroup c.loop-element.self e l) is was.1
