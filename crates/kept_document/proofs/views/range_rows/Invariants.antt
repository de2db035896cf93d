use Rattle.std.proofs.Common.{◌≡◌, map, take}
use Rattle.document_rows.specs.Rows.{range_row}
use Rattle.kept_document.proofs.views.range_rows.Given as goal

-- the rows are those of the ranges so far
abbrev pub invariant-loop-range : goal.invariant-loop-range
invariant-loop-range l = l.rows.items ≡ map range_row (take l.range-index l.ranges)
