use Rattle.std.proofs.Common.{◌+◌, arith}
use Rattle.rowan_green.proofs.RunLemmas.{at_run, height_room}
use Rattle.rowan_green.proofs.run.Run.place_at.Goals as goal

pub returns-clause-looks : goal.returns-clause-looks
returns-clause-looks c =
    let r = c.self.inside in
    let z = at_run r.arena.value r.first r.count r.height _ c.self.view_is c.self.invariant.0 c.self.invariant.1 in
    omega (arith, z.height, c.find_in_run.ensures.looks (r.height + 4) (height_room r.count r.height c.self.invariant.1))
