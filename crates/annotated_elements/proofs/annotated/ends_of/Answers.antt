use Rattle.std.proofs.Common.{◌≡◌, ◌+◌, [], ◌∷◌, length, drop, option_map, ap, sym, ◌∙◌}
use Rattle.std.proofs.lemmas.Bool.{eqb-true}
use Rattle.std.proofs.lemmas.List.{drop_more, nil_from_length}
use Rattle.syntax_tree.specs.Handle.{element_of}
use Rattle.annotated_elements.specs.Annotated.{elements_of}
use Rattle.annotated_elements.specs.Following.{followed}
use Rattle.annotated_elements.specs.Groups.{ends_of}
use Rattle.annotated_elements.proofs.AnnotatedLemmas.{ends-more, ends-none}
use Rattle.annotated_elements.proofs.annotated.ends_of.Goals as goal

pub returns-then-is_empty : goal.returns-then-is_empty
returns-then-is_empty g c =
    let all = c.args.annotations.now in
    let none : all ≡ [] = nil_from_length all (eqb-true (length all) 0 (sym c.is_empty.ensures ∙ c.if-is_empty.true)) in
    ap elements_of c.new-ends.ensures.items ∙ sym (ap (λ l. ends_of c.args.mapping.now (elements_of l)) none)

pub loop-element-preserved : goal.loop-element-preserved
loop-element-preserved g c =
    let all = c.args.annotations.now in
    let k = c.loop-element.element-index in
    let x = c.loop-element-item.result in
    let first = drop_more all k x c.loop-element-test.true ∙ ap (λ y. y ∷ drop (k + 1) all) (sym c.loop-element-item.is) in
    ends-more c.args.mapping.now x c.in-Some.end c.push.new.self.items c.loop-element.ends.items (drop (k + 1) all) (drop k all)
    c.in_ok-push.ensures.items (ap (option_map element_of) (sym c.in-Some.is) ∙ c.in_ok-end.ensures ∙ ap (λ ms. followed ms (element_of x.0)) c.in_ok-mapped.ensures) first
    ∙ c.loop-element.invariant

pub loop-element-preserved-in_default : goal.loop-element-preserved-in_default
loop-element-preserved-in_default g c =
    let all = c.args.annotations.now in
    let k = c.loop-element.element-index in
    let x = c.loop-element-item.result in
    let first = drop_more all k x c.loop-element-test.true ∙ ap (λ y. y ∷ drop (k + 1) all) (sym c.loop-element-item.is) in
    ends-none c.args.mapping.now x c.loop-element.ends.items (drop (k + 1) all) (drop k all)
    (ap (option_map element_of) (sym c.in_default.is) ∙ c.in_ok-end.ensures ∙ ap (λ ms. followed ms (element_of x.0)) c.in_ok-mapped.ensures) first
    ∙ c.loop-element.invariant
