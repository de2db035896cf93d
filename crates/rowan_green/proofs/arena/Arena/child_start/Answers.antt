use Rattle.std.proofs.Common.{slice_index_or, arith}
use Rattle.std.proofs.lemmas.List.{get_or_default}
use Rattle.rowan_green.specs.declared.arena.Entry.TheVariants.{Short}
use Rattle.rowan_green.proofs.ArenaReading.{element_sound, child_starts}
use Rattle.rowan_green.proofs.arena.Arena.child_start.Goals as goal

pub start_of-child_start-requires : goal.start_of-child_start-requires
start_of-child_start-requires c =
    let es = c.args.children.now in
    let i = c.args.index in
    let x = slice_index_or es i (Short 0 0 0) in
    element_sound c.args.self.now es i x c.requires.sound c.requires.within (get_or_default es i (Short 0 0 0) x c.requires.within)

pub overflow_sub-result : goal.overflow_sub-result
overflow_sub-result c =
    let es = c.args.children.now in
    let i = c.args.index in
    let x = slice_index_or es i (Short 0 0 0) in
    let e = child_starts c.args.self.now es c.args.start i c.start_of-child_start.result x c.requires.row c.requires.within (get_or_default es i (Short 0 0 0) x c.requires.within) c.start_of-child_start.ensures in
    omega (arith, e)

pub returns : goal.returns
returns c =
    let es = c.args.children.now in
    let i = c.args.index in
    let x = slice_index_or es i (Short 0 0 0) in
    let e = child_starts c.args.self.now es c.args.start i c.start_of-child_start.result x c.requires.row c.requires.within (get_or_default es i (Short 0 0 0) x c.requires.within) c.start_of-child_start.ensures in
    omega (arith, e)
