use Rattle.std.proofs.Common.{◌≡◌, ◌+◌, drop}
use Rattle.line_index.specs.Columns.{reach}
use Rattle.line_index.proofs.encoding.wide_reach.Given as goal

abbrev pub invariant-loop-i : goal.invariant-loop-i
invariant-loop-i l = reach l.encoding l.col l.bytes ≡ l.i + reach l.encoding l.left (drop l.i l.bytes)
