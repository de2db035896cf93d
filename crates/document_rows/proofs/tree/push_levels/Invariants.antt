use Rattle.std.proofs.Common.{◌≡◌, ◌+◌, ◌<◌, ◌^◌, ◌++◌}
use Rattle.document_rows.specs.Pending.{pending, total_len, weight}
use Rattle.document_rows.proofs.tree.push_levels.Given as goal

abbrev pub decreases-levels : goal.decreases-levels
decreases-levels l = weight l.levels.items

-- the rows so far and those that are left are all
abbrev pub invariant-levels : goal.invariant-levels
invariant-levels l = record {
  rows : l.rows.items ++ pending 1 l.start l.levels.items ≡ l.fn.rows.items ++ pending 1 0 l.fn.levels.items;
  fits : l.start + total_len l.levels.items < 2 ^ 32;
}
