-- A moved change is as the definition says, by the payload's own term.
use Rattle.std.proofs.Common.{◌≡◌, ◌+◌, ◌∷◌, Some, sym, ◌∙◌, ap}
use Rattle.rowan_green.specs.declared.utility_types.NodeOrToken.TheVariants.{Node}
use Rattle.rowan.specs.Place.{term_at, term_by, children_in, first_number}
use Rattle.tree_rewrite.specs.Change.{insert, replace}
use Rattle.tree_rewrite.specs.Rewrite.{payload_of}
use Rattle.tree_rewrite.specs.Moved.{carried, has_gap, same_kinds, way_above, change_below}
use Rattle.tree_rewrite.specs.Recorded.{change_of}
use Rattle.tree_rewrite.specs.declared.tree_change.Target.TheVariants.{Gap, Slots}
use Rattle.tree_rewrite.proofs.MovedLemmas.{insert_below, replace_below, moved_if}
use Rattle.tree_rewrite.proofs.moved.change_below.Goals as goal

pub returns-in_ok-way-in-Gap : goal.returns-in_ok-way-in-Gap
returns-in_ok-way-in-Gap c =
    let t = c.args.root.now in
    let u = c.args.replacement.way.now in
    let b = c.args.replacement.payload.now in
    let g = c.green-green.result.now in
    let w = c.args.to.now in
    let p = c.in-Gap.parent.items in
    let i = c.in-Gap.index in
    let es = c.target.ensures.0 in
    let exists = c.has_gap-exists.result in
    let moved = insert (carried u w p) i es in
    let is : c.args.change.now ≡ insert p i es = c.target.ensures.1 ∙ ap (λ x. change_of x es) c.in-Gap.is in
    let stands : term_by b.place.root b.place.up ≡ Some (Node g) = ap term_at (sym c.cursor.ensures) ∙ c.green-green.ensures in
    let way = c.in_ok-way-in-Gap.ensures ∙ ap (carried u w) c.deref.ensures.value in
    let old = c.element_by.ensures ∙ ap (term_by t) c.deref-in-Gap.ensures.value in
    let new = c.element_by-in-Gap.ensures ∙ ap (term_by g) (c.deref-in-Gap-2.ensures.value ∙ way) in
    let has : exists ≡ has_gap (term_by t p) (term_by g (carried u w p)) i = c.has_gap-exists.ensures ∙ (λ j. has_gap (old j) (new j) i) in
    let below = ap (change_below t u b w) is ∙ insert_below t u b g w p i es exists stands has in
    moved_if _ exists (Gap c.in_ok-way-in-Gap.way i) (payload_of c.args.change.now) _ moved _ c.moved_if.ensures c.then_some.ensures (λ j. insert (way j) i (ap payload_of is j)) below

pub returns-in_ok-with_number-in-Slots : goal.returns-in_ok-with_number-in-Slots
returns-in_ok-with_number-in-Slots c =
    let t = c.args.root.now in
    let u = c.args.replacement.way.now in
    let b = c.args.replacement.payload.now in
    let g = c.green-green.result.now in
    let w = c.args.to.now in
    let f = c.in-Slots.first.items in
    let n = c.in-Slots.more in
    let s = c.in-Slots.single in
    let es = c.target.ensures.0 in
    let exist = c.same_children-exist.result in
    let moved = replace (first_number f ∷ carried u w (way_above f)) n es s in
    let is : c.args.change.now ≡ replace f n es s = c.target.ensures.1 ∙ ap (λ x. change_of x es) c.in-Slots.is in
    let stands : term_by b.place.root b.place.up ≡ Some (Node g) = ap term_at (sym c.cursor.ensures) ∙ c.green-green.ensures in
    let number = c.number_and_parent-number.ensures.number ∙ ap first_number c.deref-in-Slots.ensures.value in
    let above = c.number_and_parent-number.ensures.parent ∙ ap way_above c.deref-in-Slots.ensures.value in
    let way = c.in_ok-way-in-Slots.ensures ∙ ap (carried u w) above in
    let old = c.element_by-in-Slots.ensures ∙ ap (term_by t) above in
    let new = c.element_by-in-Slots-2.ensures ∙ ap (term_by g) (c.deref-in-Slots-2.ensures.value ∙ way) in
    let has : exist ≡ same_kinds (children_in (term_by t (way_above f))) (children_in (term_by g (carried u w (way_above f)))) (first_number f) (n + 1)
    = c.same_children-exist.ensures ∙ (λ j. same_kinds (children_in (old j)) (children_in (new j)) (number j) (n + 1)) in
    let target = c.in_ok-with_number-in-Slots.ensures ∙ (λ j. number j ∷ (c.deref-in-Slots-3.ensures.value ∙ way) j) in
    let below = ap (change_below t u b w) is ∙ replace_below t u b g w f n es s exist stands has in
    moved_if _ exist (Slots c.in_ok-with_number-in-Slots.field-0 n s) (payload_of c.args.change.now) _ moved _ c.moved_if-in-Slots.ensures c.then_some-in-Slots.ensures (λ j. replace (target j) n (ap payload_of is j) s) below
