use Rattle.std.proofs.Common.{◌≡◌, ◌+◌, List, [], ◌∷◌, ◌++◌, map, take, ap, sym, ◌∙◌, rules}
use Rattle.std.proofs.lemmas.List.{take_more, map-append}
use Rattle.syntax_tree.specs.Handle.{element_of}
use Rattle.syntax_editor.specs.Editing.{Annotated, with_annotation}
use Rattle.syntax_editor.specs.Inside.{annotated}
use Rattle.syntax_editor.proofs.annotation.marked.Goals as goal

pub loop-element-preserved : goal.loop-element-preserved
loop-element-preserved c =
    let xs = c.args.elements.now in
    let i = c.loop-element.element-index in
    let n = c.args.annotation.number in
    let before = c.loop-element.marked.items in
    let old = c.element-item.result in
    let new = c.in_ok-clone.field-0 in
    let same : new ≡ old = search rules in
    let split : take (i + 1) xs ≡ take i xs ++ old ∷ [] = take_more xs i old c.loop-element-test.true ∙ ap (λ e. take i xs ++ e ∷ []) (sym c.element-item.is) in
    ap (map annotated) c.in_ok-push.ensures.items
    ∙ map-append annotated before ((new, c.args.annotation) ∷ [])
    ∙ ap (λ (l : List Annotated). l ++ with_annotation n (element_of new) ∷ []) c.loop-element.invariant
    ∙ ap (λ e. map (with_annotation n) (map element_of (take i xs)) ++ with_annotation n (element_of e) ∷ []) same
    ∙ sym (map-append (with_annotation n) (map element_of (take i xs)) (element_of old ∷ []))
    ∙ ap (map (with_annotation n)) (sym (map-append element_of (take i xs) (old ∷ [])))
    ∙ ap (λ (l : _). map (with_annotation n) (map element_of l)) (sym split)
