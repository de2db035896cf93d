use Rattle.std.proofs.Common.{sym}
use Rattle.rowan_green.proofs.RunLemmas.{at_run}
use Rattle.rowan_green.proofs.run.Run.len.Goals as goal

pub returns : goal.returns
returns c =
    let r = c.self.inside in
    sym (at_run r.arena.value r.first r.count r.height _ c.self.view_is c.self.invariant.0 c.self.invariant.1).count
