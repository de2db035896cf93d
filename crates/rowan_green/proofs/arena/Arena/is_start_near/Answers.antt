use Rattle.std.proofs.Common.{arith}
use Rattle.rowan_green.proofs.ArenaReading.{few_within, step_first}
use Rattle.rowan_green.proofs.arena.Arena.is_start_near.Goals as goal

pub index-at-requires : goal.index-at-requires
index-at-requires c =
    let b = few_within c.args.self.now c.steps.at _ _ _ c.steps.invariant c.in-Few.is in
    omega (arith, b.0, b.1, c.args.self.now.entries.ok.0)

pub steps-preserved : goal.steps-preserved
steps-preserved c =
    let z = step_first c.args.self.now c.steps.at c.index-at.result.now _ _ _ c.steps.invariant c.in-Few.is c.index-at.ensures in
    z.step.sound
