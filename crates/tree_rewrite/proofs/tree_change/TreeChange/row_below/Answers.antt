use Rattle.std.proofs.Common.{◌≡◌, ◌∷◌, map, sym, ap, ◌∙◌, subst, arith}
use Rattle.syntax_tree.specs.Handle.{element_of}
use Rattle.tree_rewrite.specs.Change.{replace}
use Rattle.tree_rewrite.specs.Recorded.{change_of}
use Rattle.tree_rewrite.specs.Below.{LeavesChild}
use Rattle.tree_rewrite.proofs.BelowLemmas.{leaves_gap, leaves_slots}
use Rattle.tree_rewrite.proofs.tree_change.TreeChange.row_below.Goals as goal

pub returns-then-len-depth : goal.returns-then-len-depth
returns-then-len-depth c = λ w i l b.
    let new = map element_of c.self.inside.new.items in
    subst (λ x. LeavesChild x w i) (ap (λ t. change_of t new) (sym c.in-Gap.is) ∙ c.self.view_is)
    (leaves_gap c.in-Gap.parent.items c.in-Gap.index new w i (omega (arith, c.if-len-depth.true, c.len.ensures, l)) b)

pub returns-then-above-depth : goal.returns-then-above-depth
returns-then-above-depth c = λ w i l b.
    let new = map element_of c.self.inside.new.items in
    let first = c.in-Slots.first.items in
    let more = c.in-Slots.more in
    let start = c.in_ok-start-in-Slots.start.now in
    let above = c.in_ok-start-in-Slots.above.now in
    let here : start ∷ above ≡ first = sym c.in_ok-start-in-Slots.ensures.cases.0 ∙ c.deref-in-Slots.ensures.value in
    subst (λ x. LeavesChild x w i) (ap (λ f. replace f more new c.in-Slots.single) here ∙ ap (λ t. change_of t new) (sym c.in-Slots.is) ∙ c.self.view_is)
    (leaves_slots start above more new c.in-Slots.single w i (omega (arith, c.if-above-depth.true, l)) b)
