use Rattle.std.proofs.Common.{◌≡◌, ◌+◌, sym, ◌∙◌, ap, arith, ◌-◌, ◌++◌, ◌∷◌, []}
use Rattle.rowan.specs.Place.{index_of}
use Rattle.syntax_tree.specs.Element.{Element, element_at}
use Rattle.tree_rewrite.specs.Moved.{way_to, way_up}
use Rattle.tree_rewrite.specs.Climbing.{StandsAt, after_numbers, way_left}
use Rattle.tree_rewrite.proofs.ClimbLemmas.{way_to-goes_on, way_to-any_tree}
use Rattle.tree_rewrite.proofs.climb.way_to.Goals as goal

pub loop-rest-preserved : goal.loop-rest-preserved
loop-rest-preserved c = λ t.
    let ms = c.args.mapping.now in
    let b = c.args.payload.now in
    let d = c.loop-rest.left in
    let old = c.loop-rest.numbers.items in
    let new = c.climb.new.numbers.items in
    let o = c.in-Mapped.output.now in
    let p = c.in-Some.parent in
    let on = λ (e : Element). way_to d ms b e in
    let here = element_at c.loop-rest.at t c.loop-rest.rest.items in
    let stands : StandsAt b c.tree.result c.deref.result.now = record { number = sym c.tree.ensures; way = sym (c.deref.ensures.value ∙ c.in_ok-place.ensures) } in
    let ended = ap (λ v. after_numbers old (way_up on ms b c.loop-rest.at t v)) (sym c.deref-in-loop-rest.ensures.value) ∙ c.in_ok-climb.ensures on b t stands ∙ ap (λ x. after_numbers new (way_left on b x)) c.in-Mapped.is in
    let on_from = way_to-goes_on d ms b here o p old new ended (sym (c.in_ok-is_same.ensures b stands) ∙ c.if-branch.false) (sym c.in-Some.is ∙ c.in_ok-parent.ensures) in
    let one_less : d ≡ d - 1 + 1 = omega (arith, c.if-left-eq0.false) in
    let pushed = c.in_ok-push.ensures.items ∙ ap (λ i. new ++ i ∷ []) (c.index.ensures ∙ ap index_of c.cursor.ensures) in
    let there = way_to-any_tree (d - 1 + 1) ms b p.number p.place.root t p.place.up ∙ (λ j. way_to (d - 1 + 1) ms b (element_at (sym c.tree-at.ensures j) t (sym c.in_ok-above.ensures j))) in
    c.loop-rest.invariant t ∙ on_from
    ∙ ap (λ k. after_numbers (new ++ index_of o.place ∷ []) (way_to k ms b p)) one_less
    ∙ (λ j. after_numbers (sym pushed j) (there j))
