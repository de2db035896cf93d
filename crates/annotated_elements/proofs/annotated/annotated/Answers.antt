use Rattle.std.proofs.Common.{◌≡◌, map, [], length, ap, sym, ◌∙◌, arith}
use Rattle.std.proofs.lemmas.Bool.{eqb-true}
use Rattle.std.proofs.lemmas.List.{nil_from_length}
use Rattle.syntax_tree.specs.Handle.{element_of}
use Rattle.annotated_elements.specs.Annotated.{elements_of}
use Rattle.annotated_elements.specs.Groups.{is_among, collected}
use Rattle.annotated_elements.proofs.AnnotatedLemmas.{all-found, none-found}
use Rattle.annotated_elements.proofs.annotated.annotated.Goals as goal

pub returns-then-is_empty : goal.returns-then-is_empty
returns-then-is_empty g c = λ m h.
    let ends = c.in_ok-ends.ends in
    let len = eqb-true ends.len 0 (sym c.is_empty.ensures ∙ c.if-is_empty.true) in
    let none : length ends.items ≡ 0 = omega (arith, ends.ok.0, len) in
    ap elements_of c.new.ensures.items
    ∙ none-found c.args.mapping.now m c.args.root.now c.args.annotations.now ends.items (nil_from_length ends.items none) c.in_ok-ends.ensures

pub returns : goal.returns
returns g c = λ m h.
    let ends = c.in_ok-ends.ends.items in
    let groups = c.add_tree.new.self in
    ap elements_of (c.in_ok-all.ensures ∙ ap (collected groups) c.deref-2.ensures.value)
    ∙ all-found groups c.args.mapping.now m c.args.root.now (map element_of c.args.origins.now) c.args.annotations.now ends h
    (λ e among. c.in_ok-add_tree.ensures e [] (c.in_ok-groups.ensures e (ap (λ l. is_among e (elements_of l)) c.deref.ensures.value ∙ among)))
    c.in_ok-ends.ensures
