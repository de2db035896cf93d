use Rattle.std.proofs.Common.{◌≡◌, ◌++◌, take}
use Rattle.std.specs.List.{flat_map}
use Rattle.match_rows.specs.Rows.{match_row}
use Rattle.match_rows.proofs.rows.push_rows.Given as goal

abbrev pub invariant-loop-found : goal.invariant-loop-found
invariant-loop-found l = l.rows.items ≡ l.fn.rows.items ++ flat_map (match_row l.path l.index) (take l.found-index l.matches)
