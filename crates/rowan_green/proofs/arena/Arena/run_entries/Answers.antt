use Rattle.rowan_green.proofs.ArenaReading.{slice_is}
use Rattle.rowan_green.proofs.RunLemmas.{run_read}
use Rattle.rowan_green.proofs.arena.Arena.run_entries.Goals as goal

pub returns-clause-sound : goal.returns-clause-sound
returns-clause-sound c =
    let e = slice_is c.deref.result.now c.args.self.now.entries.items c.args.first c.args.count c.deref.ensures.value in
    (run_read c.args.self.now c.args.first c.args.count _ c.requires e).sound

pub returns-clause-items : goal.returns-clause-items
returns-clause-items c =
    let e = slice_is c.deref.result.now c.args.self.now.entries.items c.args.first c.args.count c.deref.ensures.value in
    (run_read c.args.self.now c.args.first c.args.count _ c.requires e).items
