use Rattle.std.proofs.Common.{◌≡◌, ◌++◌, take}
use Rattle.std.specs.Prelude.{codes}
use Rattle.std.specs.List.{flat_map}
use Rattle.source_tools.specs.Rows.{escaped}
use Rattle.source_tools.proofs.rows.push_quoted.Given as goal

abbrev pub invariant-loop-byte : goal.invariant-loop-byte
invariant-loop-byte l = l.rows.items ≡ l.fn.rows.items ++ (codes "\"" ++ flat_map escaped (take l.byte-index l.text))
