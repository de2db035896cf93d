use Rattle.std.proofs.Common.{◌≡◌, ◌+◌, ◌-◌, suc, arith, sym, ◌∙◌}
use Rattle.rowan_green.proofs.ArenaReading.{few_within, step_last, short_end, long_record, many_record}
use Rattle.rowan_green.proofs.arena.Arena.end_of.Goals as goal

pub index-at-requires : goal.index-at-requires
index-at-requires c =
    let b = few_within c.args.self.now c.down.at _ _ _ c.down.invariant.sound c.in-Few.is in
    omega (arith, b.0, b.1, c.args.self.now.entries.ok.0)

pub down-preserved : goal.down-preserved
down-preserved c =
    let b = few_within c.args.self.now c.down.at _ _ _ c.down.invariant.sound c.in-Few.is in
    let i : suc ((c.in-Few.first + c.in-Few.count) - 1) ≡ c.in-Few.first + c.in-Few.count = omega (arith, b.0) in
    let z = step_last c.args.self.now c.down.at c.index-at.result.now _ _ _ _ c.down.invariant.sound c.in-Few.is i c.index-at.ensures in
    record { sound = z.step.sound; same = z.end ∙ c.down.invariant.same }

pub down-smaller : goal.down-smaller
down-smaller c =
    let b = few_within c.args.self.now c.down.at _ _ _ c.down.invariant.sound c.in-Few.is in
    let i : suc ((c.in-Few.first + c.in-Few.count) - 1) ≡ c.in-Few.first + c.in-Few.count = omega (arith, b.0) in
    let z = step_last c.args.self.now c.down.at c.index-at.result.now _ _ _ _ c.down.invariant.sound c.in-Few.is i c.index-at.ensures in
    z.step.falls

pub returns-in-Short : goal.returns-in-Short
returns-in-Short c = sym (short_end c.args.self.now c.down.at _ _ _ c.down.invariant.sound c.in-Short.is) ∙ c.down.invariant.same

pub returns-in-Long : goal.returns-in-Long
returns-in-Long c =
    let z = long_record c.args.self.now c.down.at _ _ c.index-record.result.now c.down.invariant.sound c.in-Long.is c.index-record.ensures in
    c.end.ensures ∙ z.end ∙ c.down.invariant.same

pub end-requires-in-Many : goal.end-requires-in-Many
end-requires-in-Many c =
    let z = many_record c.args.self.now c.down.at _ _ c.index-record-in-Many.result.now c.down.invariant.sound c.in-Many.is c.index-record-in-Many.ensures in
    z.fits
