use Rattle.std.proofs.Common.{◌≡◌, ◌+◌, arith, sym, ◌∙◌}
use Rattle.rowan.proofs.Walks.{step_side, step_up, step_start}
use Rattle.rowan.proofs.walk.step_after_leaving.Goals as goal

pub returns-in_default : goal.returns-in_default
returns-in_default c = let d : c.args.depth ≡ 0 = grind (arith, c.in_default.ensures) in step_start c.args.element.now c.args.depth d

pub returns-in-Some-2 : goal.returns-in-Some-2
returns-in-Some-2 c =
    let d : c.args.depth ≡ c.in-Some.above + 1 = grind (arith, c.in-Some.ensures) in
    step_side c.args.element.now c.in-Some-2.sibling c.args.depth c.in-Some.above d (sym c.in-Some-2.is ∙ c.in_ok-sibling.ensures)

pub returns-in_ok-clone-in-Some-parent_of : goal.returns-in_ok-clone-in-Some-parent_of
returns-in_ok-clone-in-Some-parent_of c =
    let d : c.args.depth ≡ c.in-Some.above + 1 = grind (arith, c.in-Some.ensures) in
    rw c.in_ok-clone-in-Some-parent_of.ensures.cases (step_up c.args.element.now _ c.args.depth c.in-Some.above d (sym c.in_default-2.is ∙ c.in_ok-sibling.ensures) c.in-Some-parent_of.ensures)
