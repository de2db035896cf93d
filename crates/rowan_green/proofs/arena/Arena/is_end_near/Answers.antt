use Rattle.std.proofs.Common.{◌≡◌, ◌+◌, ◌-◌, suc, arith}
use Rattle.rowan_green.proofs.ArenaReading.{few_within, step_last}
use Rattle.rowan_green.proofs.arena.Arena.is_end_near.Goals as goal

pub index-at-requires : goal.index-at-requires
index-at-requires c =
    let b = few_within c.args.self.now c.steps.at _ _ _ c.steps.invariant c.in-Few.is in
    omega (arith, b.0, b.1, c.args.self.now.entries.ok.0)

pub steps-preserved : goal.steps-preserved
steps-preserved c =
    let b = few_within c.args.self.now c.steps.at _ _ _ c.steps.invariant c.in-Few.is in
    let i : suc ((c.in-Few.first + c.in-Few.count) - 1) ≡ c.in-Few.first + c.in-Few.count = omega (arith, b.0) in
    let z = step_last c.args.self.now c.steps.at c.index-at.result.now _ _ _ _ c.steps.invariant c.in-Few.is i c.index-at.ensures in
    z.step.sound
