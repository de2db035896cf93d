use Rattle.std.proofs.Common.{◌≡◌, ◌+◌, ◌∷◌, map, drop, refl, sym, ap, ◌∙◌}
use Rattle.std.proofs.lemmas.List.{drop_more, drop_all}
use Rattle.syntax_tree.specs.Handle.{element_of}
use Rattle.tree_rewrite.specs.Marked.{nothing, join, reading_of, readings_of}
use Rattle.tree_rewrite.specs.Recorded.{target_of}
use Rattle.tree_rewrite.specs.Fill.{laid}
use Rattle.tree_rewrite.proofs.SheetLemmas.{adds-nothing, adds-same, adds-join, join-assoc, join-nothing}
use Rattle.tree_rewrite.proofs.execute.push_all.Goals as goal

pub loop-element-init : goal.loop-element-init
loop-element-init c = λ gs h. (nothing, adds-nothing _, refl)

pub loop-element-preserved : goal.loop-element-preserved
loop-element-preserved c = λ gs h.
    let old = c.loop-element.invariant gs h in
    let items = c.args.elements.now in
    let i = c.loop-element.element-index in
    let x = c.element-item.result in
    let s = laid gs (target_of c.args.overlay.now.target) in
    let here : drop i items ≡ x ∷ drop (i + 1) items = drop_more items i x c.loop-element-test.true ∙ ap (λ y. y ∷ drop (i + 1) items) (sym c.element-item.is) in
    let own = reading_of s (element_of x) in
    let added = adds-same _ _ _ own (ap (λ y. reading_of s (element_of y)) c.in_ok-clone.ensures.cases) (c.in_ok-push_standing.ensures gs h) in (
      join old.0 own,
      adds-join _ _ _ old.0 own old.1 added,
      old.2 ∙ ap (λ l. join old.0 (readings_of s (map element_of l))) here ∙ sym (join-assoc old.0 own (readings_of s (map element_of (drop (i + 1) items)))),
    )

pub returns : goal.returns
returns c = λ gs h.
    let old = c.loop-element.invariant gs h in
    let items = c.args.elements.now in
    let s = laid gs (target_of c.args.overlay.now.target) in
    let none = drop_all c.loop-element.element-index items c.loop-element-test.false in
    adds-same _ _ old.0 _ (sym (old.2 ∙ ap (λ l. join old.0 (readings_of s (map element_of l))) none ∙ join-nothing old.0)) old.1
