use Rattle.std.proofs.Common.{◌≡◌, ◌+◌, ◌-◌, ◌/◌, ◌≤◌, ◌<◌, ◌^◌, length, slice_index_or, arith, refl, ap, ◌∙◌}
use Rattle.std.proofs.lemmas.List.{length-map, get_or_default}
use Rattle.rowan_green.specs.Arena.{Item, item_in, items_over}
use Rattle.rowan_green.specs.declared.arena.Entry.TheVariants.{Short}
use Rattle.rowan_green.proofs.ArenaRows.{row_some}
use Rattle.rowan_green.proofs.ArenaReading.{row_fits, element_sound, element_item}
use Rattle.rowan_green.proofs.ArenaSearch.{halving_low, halving_high, halving_found}
use Rattle.rowan_green.proofs.arena.Arena.find_child.Goals as goal

pub overflow_add-target : goal.overflow_add-target
overflow_add-target c =
    let xs = items_over c.args.self.now c.args.children.now in
    let n : length xs ≡ length c.args.children.now = length-map c.args.children.now (item_in c.args.self.now) in
    let some : 1 ≤ length c.args.children.now = omega (arith, n, row_some xs c.args.offset c.requires.inside) in
    let e = row_fits c.args.self.now c.args.children.now c.args.start c.requires.sound c.requires.row some in
    omega (arith, e, c.requires.inside)

pub start_of-middle_start-requires : goal.start_of-middle_start-requires
start_of-middle_start-requires c =
    let es = c.args.children.now in
    let xs = items_over c.args.self.now es in
    let n : length xs ≡ length es = length-map es (item_in c.args.self.now) in
    let i = c.halve.low + (c.halve.high - c.halve.low) / 2 in
    let h : i < length es = omega (arith, n, c.halve-test.true, c.halve.invariant.within) in
    let x = slice_index_or es i (Short 0 0 0) in
    element_sound c.args.self.now es i x c.requires.sound h (get_or_default es i (Short 0 0 0) x h)

pub overflow_add-looks : goal.overflow_add-looks
overflow_add-looks c =
    let es = c.args.children.now in
    let n : length (items_over c.args.self.now es) ≡ length es = length-map es (item_in c.args.self.now) in
    let h : length (items_over c.args.self.now es) ≤ 2 ^ 32 = omega (arith, n, c.requires.count) in
    let b = c.halve.invariant.bound 32 h in
    omega (arith, b.0)

pub halve-preserved-then-middle_start-target : goal.halve-preserved-then-middle_start-target
halve-preserved-then-middle_start-target c =
    let es = c.args.children.now in
    let xs = items_over c.args.self.now es in
    let n : length xs ≡ length es = length-map es (item_in c.args.self.now) in
    let i = c.halve.low + (c.halve.high - c.halve.low) / 2 in
    let h : i < length es = omega (arith, n, c.halve-test.true, c.halve.invariant.within) in
    let x = slice_index_or es i (Short 0 0 0) in
    let d = item_in c.args.self.now x in
    let e = c.start_of-middle_start.ensures ∙ ap (λ (y : Item). y.start) (element_item c.args.self.now es i x d h (get_or_default es i (Short 0 0 0) x h)) in
    halving_low xs c.args.start _ c.halve.low _ c.halve.high c.halve.looks i _ d c.halve.invariant c.halve-test.true refl c.requires.row e c.if-middle_start-target.true

pub halve-preserved : goal.halve-preserved
halve-preserved c =
    let es = c.args.children.now in
    let xs = items_over c.args.self.now es in
    let n : length xs ≡ length es = length-map es (item_in c.args.self.now) in
    let i = c.halve.low + (c.halve.high - c.halve.low) / 2 in
    let h : i < length es = omega (arith, n, c.halve-test.true, c.halve.invariant.within) in
    let x = slice_index_or es i (Short 0 0 0) in
    let d = item_in c.args.self.now x in
    let e = c.start_of-middle_start.ensures ∙ ap (λ (y : Item). y.start) (element_item c.args.self.now es i x d h (get_or_default es i (Short 0 0 0) x h)) in
    halving_high xs c.args.start _ c.halve.low _ c.halve.high c.halve.looks i _ d c.halve.invariant c.halve-test.true refl c.requires.row e c.if-middle_start-target.false

pub returns-clause-place : goal.returns-clause-place
returns-clause-place c =
    halving_found (items_over c.args.self.now c.args.children.now) c.args.start c.args.offset (c.args.start + c.args.offset) c.halve.low c.halve.low_start c.halve.high c.halve.looks refl c.halve.invariant c.halve-test.false
