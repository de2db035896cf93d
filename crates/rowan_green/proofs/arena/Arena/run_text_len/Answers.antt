use Rattle.std.proofs.Common.{◌-◌, ◌<◌, length, slice_index_or, arith}
use Rattle.std.proofs.lemmas.List.{get_or_default}
use Rattle.rowan_green.specs.declared.arena.Entry.TheVariants.{Short}
use Rattle.rowan_green.proofs.ArenaReading.{element_sound}
use Rattle.rowan_green.proofs.RunLemmas.{AreRunEntries, run_end}
use Rattle.rowan_green.proofs.arena.Arena.run_text_len.Goals as goal

pub end_of-requires : goal.end_of-requires
end_of-requires c =
    let es = c.run_entries-entries.result.now in
    let k = length es - 1 in
    let h : k < length es = omega (arith, c.run_entries-entries.ensures.count, c.requires.some) in
    let y = slice_index_or es k (Short 0 0 0) in
    element_sound c.args.self.now es k y c.run_entries-entries.ensures.sound h (get_or_default es k (Short 0 0 0) y h)

pub overflow_sub-result : goal.overflow_sub-result
overflow_sub-result c =
    let es = c.run_entries-entries.result.now in
    let k = length es - 1 in
    let h : k < length es = omega (arith, c.run_entries-entries.ensures.count, c.requires.some) in
    let z : 0 < length es = omega (arith, h) in
    let p : AreRunEntries c.args.self.now c.args.first c.args.count es = record { sound = c.run_entries-entries.ensures.sound; items = c.run_entries-entries.ensures.items; count = c.run_entries-entries.ensures.count } in
    let x = slice_index_or es 0 (Short 0 0 0) in
    let y = slice_index_or es k (Short 0 0 0) in
    omega (arith, run_end c.args.self.now c.args.first c.args.count _ _ es x y c.requires.run p c.requires.some (get_or_default es 0 (Short 0 0 0) x z) c.start_of-start.ensures (get_or_default es k (Short 0 0 0) y h) c.end_of.ensures)

pub returns : goal.returns
returns c =
    let es = c.run_entries-entries.result.now in
    let k = length es - 1 in
    let h : k < length es = omega (arith, c.run_entries-entries.ensures.count, c.requires.some) in
    let z : 0 < length es = omega (arith, h) in
    let p : AreRunEntries c.args.self.now c.args.first c.args.count es = record { sound = c.run_entries-entries.ensures.sound; items = c.run_entries-entries.ensures.items; count = c.run_entries-entries.ensures.count } in
    let x = slice_index_or es 0 (Short 0 0 0) in
    let y = slice_index_or es k (Short 0 0 0) in
    omega (arith, run_end c.args.self.now c.args.first c.args.count _ _ es x y c.requires.run p c.requires.some (get_or_default es 0 (Short 0 0 0) x z) c.start_of-start.ensures (get_or_default es k (Short 0 0 0) y h) c.end_of.ensures)
