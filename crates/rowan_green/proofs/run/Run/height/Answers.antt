use Rattle.std.proofs.Common.{arith}
use Rattle.rowan_green.proofs.RunLemmas.{at_run}
use Rattle.rowan_green.proofs.run.Run.height.Goals as goal

pub returns-clause-fits : goal.returns-clause-fits
returns-clause-fits c =
    let r = c.self.inside in
    (at_run r.arena.value r.first r.count r.height _ c.self.view_is c.self.invariant.0 c.self.invariant.1).fits

pub returns-clause-low : goal.returns-clause-low
returns-clause-low c =
    let r = c.self.inside in
    let z = at_run r.arena.value r.first r.count r.height _ c.self.view_is c.self.invariant.0 c.self.invariant.1 in
    omega (arith, z.low, z.height)
