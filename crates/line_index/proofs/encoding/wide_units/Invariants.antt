use Rattle.std.proofs.Common.{◌≡◌, take}
use Rattle.line_index.specs.Columns.{units}
use Rattle.line_index.proofs.encoding.wide_units.Given as goal

abbrev pub invariant-loop-byte : goal.invariant-loop-byte
invariant-loop-byte l = l.count ≡ units l.encoding (take l.byte-index l.bytes)
