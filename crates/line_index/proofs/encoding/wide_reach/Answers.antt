use Rattle.std.proofs.Common.{◌≡◌, ◌+◌, ◌-◌, ◌≤◌, suc, drop, get_or, sym, arith, rules}
use Rattle.std.proofs.lemmas.List.{drop_more, drop_all}
use Rattle.line_index.specs.Columns.{width, reach}
use Rattle.line_index.proofs.ColumnLemmas.{reach-nil, reach-step, reach-stop}
use Rattle.line_index.proofs.encoding.wide_reach.Goals as goal

pub returns-then-left-units : goal.returns-then-left-units
returns-then-left-units c =
    let cut = drop_more c.args.bytes.now c.loop-i.i 0 c.loop-i-test.true in
    let inv = rw cut at c.loop-i.invariant in
    let stop = reach-stop c.args.encoding c.loop-i.left (get_or c.args.bytes.now c.loop-i.i 0) (drop (c.loop-i.i + 1) c.args.bytes.now) (omega arith) in
    omega arith

pub loop-i-preserved : goal.loop-i-preserved
loop-i-preserved c =
    let cut = drop_more c.args.bytes.now c.loop-i.i 0 c.loop-i-test.true in
    let inv = rw cut at c.loop-i.invariant in
    let step = reach-step c.args.encoding c.loop-i.left (get_or c.args.bytes.now c.loop-i.i 0) (drop (c.loop-i.i + 1) c.args.bytes.now) (omega arith) in
    rw c.width-units.ensures.value (omega arith)

pub returns : goal.returns
returns c =
    let cut = drop_all c.loop-i.i c.args.bytes.now (omega arith) in
    let inv = rw cut at c.loop-i.invariant in
    let none = reach-nil c.args.encoding c.loop-i.left in
    omega arith
