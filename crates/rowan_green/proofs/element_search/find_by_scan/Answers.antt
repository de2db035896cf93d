use Rattle.std.proofs.Common.{arith}
use Rattle.rowan_green.proofs.Lengths.{prefix_all}
use Rattle.rowan_green.proofs.Summing.{scan_found}
use Rattle.rowan_green.proofs.element_search.find_by_scan.Goals as goal

pub returns-then-offset-end-clause-place : goal.returns-then-offset-end-clause-place
returns-then-offset-end-clause-place c =
    let n = c.text_len.ensures in
    scan_found c.args.elements.now c.args.offset c.loop-index.index c.loop-index.start c.index-elements-index.result c.loop-index-test.true c.index-elements-index.is c.loop-index.invariant.0 c.loop-index.invariant.1
    (omega (arith, n, c.if-offset-end.true))

pub unreachable-requires : goal.unreachable-requires
unreachable-requires c =
    let e = prefix_all c.args.elements.now c.loop-index.index c.loop-index-test.false in
    absurd (omega (arith, e, c.loop-index.invariant.0, c.loop-index.invariant.1, c.requires.inside))
