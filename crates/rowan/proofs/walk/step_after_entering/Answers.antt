use Rattle.std.proofs.Common.{◌≡◌, ◌+◌, arith, sym, ◌∙◌}
use Rattle.rowan.proofs.Walks.{step_in, step_turn}
use Rattle.rowan.proofs.walk.step_after_entering.Goals as goal

pub returns-in_default : goal.returns-in_default
returns-in_default c =
    rw (c.in-Node.is, c.in_ok-clone.ensures.cases) (step_turn c.in-Node.node c.args.depth (sym c.in_default.is ∙ c.in_ok-child.ensures))

pub returns : goal.returns
returns c =
    let d : c.in-Some-checked_add.depth ≡ c.args.depth + 1 = grind (arith, c.in-Some-checked_add.ensures) in
    rw (c.in-Node.is, d) (step_in c.in-Node.node c.in-Some.child c.args.depth (sym c.in-Some.is ∙ c.in_ok-child.ensures))
