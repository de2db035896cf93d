use Rattle.std.proofs.Common.{◌≡◌, ◌+◌, ◌-◌, ◌≤◌, ◌<◌, true, false, sym, ap, drop, get_or, length, ℕ, arith, ◌∙◌}
use Rattle.text_diff.specs.Hunks.{is_near, group_len}
use Rattle.text_diff.proofs.HunkLemmas.{group_len-near, group_len-far, group_len-last}
use Rattle.text_diff.proofs.unified.group_len.Goals as goal

pub returns-then-not-is_near-clause-value : goal.returns-then-not-is_near-clause-value
returns-then-not-is_near-clause-value c =
    let e : (c.loop-len.len - 1) + 1 ≡ c.loop-len.len = omega (arith, c.loop-len.invariant.some) in
    let far = sym c.is_near.ensures ∙ c.if-not-is_near.true in
    let one = group_len-far c.args.changes.now (c.loop-len.len - 1) (record { old_start = 0; old_end = 0; new_start = 0; new_end = 0 }) (omega arith) (rw e far) in
    omega (arith, one, c.loop-len.invariant.near)

pub loop-len-preserved : goal.loop-len-preserved
loop-len-preserved c =
    let e : (c.loop-len.len - 1) + 1 ≡ c.loop-len.len = omega (arith, c.loop-len.invariant.some) in
    let f : c.loop-len.len + 1 - 1 ≡ c.loop-len.len = omega arith in
    let near = sym c.is_near.ensures ∙ c.if-not-is_near.false in
    let more = rw e at (group_len-near c.args.changes.now (c.loop-len.len - 1) (record { old_start = 0; old_end = 0; new_start = 0; new_end = 0 }) (omega arith) (rw e near)) in
    record { some = omega arith; near = rw f (omega (arith, more, c.loop-len.invariant.near)) }

pub returns-clause-value : goal.returns-clause-value
returns-clause-value c =
    let last = group_len-last c.args.changes.now (c.loop-len.len - 1) (omega arith) in
    omega (arith, last, c.loop-len.invariant.near)
