use Rattle.std.proofs.Common.{◌-◌, ◌<◌, length, slice_index_or, arith}
use Rattle.std.proofs.lemmas.List.{get_or_default}
use Rattle.rowan_green.specs.declared.arena.Entry.TheVariants.{Short}
use Rattle.rowan_green.proofs.ArenaReading.{element_sound}
use Rattle.rowan_green.proofs.arena.Arena.has_near_ends.Goals as goal

pub is_end_near-requires : goal.is_end_near-requires
is_end_near-requires c =
    let es = c.args.children.now in
    let i = length es - 1 in
    let h : i < length es = omega (arith, c.requires.some) in
    let x = slice_index_or es i (Short 0 0 0) in
    element_sound c.args.self.now es i x c.requires.sound h (get_or_default es i (Short 0 0 0) x h)
