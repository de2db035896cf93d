use Rattle.std.proofs.Common.{[]}
use Rattle.rowan_green.proofs.ArenaItems.{entry_at}
use Rattle.rowan_green.proofs.ArenaReading.{term_read}
use Rattle.rowan_green.proofs.arena.Arena.entry.Goals as goal

pub returns-clause-sound : goal.returns-clause-sound
returns-clause-sound c =
    let z = entry_at c.args.self.now [] c.args.number c.index.result.now c.requires.sound c.requires.within c.index.ensures in
    z.sound

pub returns-clause-term : goal.returns-clause-term
returns-clause-term c =
    let z = entry_at c.args.self.now [] c.args.number c.index.result.now c.requires.sound c.requires.within c.index.ensures in
    term_read c.args.self.now c.args.number c.index.result.now z c.requires.within
