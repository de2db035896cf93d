use Rattle.std.proofs.Common.{arith, ◌∙◌}
use Rattle.rowan_green.proofs.ArenaReading.{few_within, step_first}
use Rattle.rowan_green.proofs.arena.Arena.start_of.Goals as goal

pub index-at-requires : goal.index-at-requires
index-at-requires c =
    let b = few_within c.args.self.now c.down.at _ _ _ c.down.invariant.sound c.in-Few.is in
    omega (arith, b.0, b.1, c.args.self.now.entries.ok.0)

pub down-preserved : goal.down-preserved
down-preserved c =
    let z = step_first c.args.self.now c.down.at c.index-at.result.now _ _ _ c.down.invariant.sound c.in-Few.is c.index-at.ensures in
    record { sound = z.step.sound; same = z.start ∙ c.down.invariant.same }

pub down-smaller : goal.down-smaller
down-smaller c =
    let z = step_first c.args.self.now c.down.at c.index-at.result.now _ _ _ c.down.invariant.sound c.in-Few.is c.index-at.ensures in
    z.step.falls
