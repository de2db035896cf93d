use Rattle.rowan_green.proofs.ArenaReading.{slice_is, range_read}
use Rattle.rowan_green.proofs.arena.Arena.children.Goals as goal

pub returns-clause-sound : goal.returns-clause-sound
returns-clause-sound c =
    let e = slice_is c.deref.result.now c.args.self.now.entries.items c.child_range-first.result.0 c.child_range-first.result.1 c.deref.ensures.value in
    let z = range_read c.args.self.now c.args.entry _ _ _ c.requires c.child_range-first.ensures e in
    z.sound

pub returns-clause-children : goal.returns-clause-children
returns-clause-children c =
    let e = slice_is c.deref.result.now c.args.self.now.entries.items c.child_range-first.result.0 c.child_range-first.result.1 c.deref.ensures.value in
    let z = range_read c.args.self.now c.args.entry _ _ _ c.requires c.child_range-first.ensures e in
    z.children

pub returns-clause-row : goal.returns-clause-row
returns-clause-row c =
    let e = slice_is c.deref.result.now c.args.self.now.entries.items c.child_range-first.result.0 c.child_range-first.result.1 c.deref.ensures.value in
    let z = range_read c.args.self.now c.args.entry _ _ _ c.requires c.child_range-first.ensures e in
    z.row

pub returns-clause-count : goal.returns-clause-count
returns-clause-count c =
    let e = slice_is c.deref.result.now c.args.self.now.entries.items c.child_range-first.result.0 c.child_range-first.result.1 c.deref.ensures.value in
    let z = range_read c.args.self.now c.args.entry _ _ _ c.requires c.child_range-first.ensures e in
    z.count
