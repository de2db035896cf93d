use Rattle.std.proofs.Common.{◌≡◌, ◌+◌, ◌≤◌, take, get_or, sym, arith}
use Rattle.line_index.specs.Columns.{width, units}
use Rattle.line_index.proofs.ColumnLemmas.{units-nil, units-more}
use Rattle.line_index.proofs.EncodeLemmas.{units-take}
use Rattle.line_index.proofs.encoding.wide_units.Goals as goal

pub loop-byte-init : goal.loop-byte-init
loop-byte-init c = sym (units-nil c.args.encoding)

pub overflow_add-count : goal.overflow_add-count
overflow_add-count c =
    let more = units-more c.args.encoding c.loop-byte.byte-index c.args.bytes.now c.loop-byte-test.true in
    let all = units-take c.args.encoding (c.loop-byte.byte-index + 1) c.args.bytes.now in
    omega arith

pub loop-byte-preserved : goal.loop-byte-preserved
loop-byte-preserved c =
    let more = units-more c.args.encoding c.loop-byte.byte-index c.args.bytes.now c.loop-byte-test.true in
    omega arith
