use Rattle.std.proofs.Common.{slice_index_or}
use Rattle.std.proofs.lemmas.List.{get_or_default}
use Rattle.rowan_green.specs.declared.arena.Entry.TheVariants.{Short}
use Rattle.rowan_green.proofs.ArenaReading.{element_sound}
use Rattle.rowan_green.proofs.ArenaGrowing.{start_at}
use Rattle.rowan_green.proofs.arena.Arena.start_from.Goals as goal

pub start_of-requires : goal.start_of-requires
start_of-requires c =
    let ds = c.args.done.now in
    let i = c.args.first in
    let x = slice_index_or ds i (Short 0 0 0) in
    element_sound c.args.self.now ds i x c.requires.growing.sound c.if-first-done.true (get_or_default ds i (Short 0 0 0) x c.if-first-done.true)

pub returns-then-first-done : goal.returns-then-first-done
returns-then-first-done c =
    let ds = c.args.done.now in
    let i = c.args.first in
    let x = slice_index_or ds i (Short 0 0 0) in
    start_at c.args.self.now ds i c.start_of.result x c.requires.growing c.if-first-done.true (get_or_default ds i (Short 0 0 0) x c.if-first-done.true) c.start_of.ensures
