use Rattle.std.proofs.Common.{◌≡◌, ◌+◌, arith}
use Rattle.rowan.proofs.Walks.{past_up, past_top, past_start}
use Rattle.rowan.proofs.walk.step_past.Goals as goal

pub returns-in_default : goal.returns-in_default
returns-in_default c = let d : c.args.depth ≡ 0 = grind (arith, c.in_default.ensures) in past_start c.args.element.now c.args.depth d

pub returns-in_ok-clone-in-Some-parent_of : goal.returns-in_ok-clone-in-Some-parent_of
returns-in_ok-clone-in-Some-parent_of c =
    let d : c.args.depth ≡ c.in-Some.above + 1 = grind (arith, c.in-Some.ensures) in
    past_up c.args.element.now _ _ c.args.depth c.in-Some.above d c.in-Some-parent_of.ensures c.in_ok-clone-in-Some-parent_of.ensures.cases

pub returns-in-None : goal.returns-in-None
returns-in-None c = past_top c.args.element.now c.args.depth c.in-None.ensures
