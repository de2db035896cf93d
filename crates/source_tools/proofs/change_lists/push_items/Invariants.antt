use Rattle.std.proofs.Common.{◌≡◌, ◌++◌, take}
use Rattle.std.specs.List.{flat_map}
use Rattle.source_tools.specs.Json.{change_item}
use Rattle.source_tools.proofs.change_lists.push_items.Given as goal

abbrev pub invariant-loop-change : goal.invariant-loop-change
invariant-loop-change l = l.items.items ≡ l.fn.items.items ++ flat_map change_item (take l.change-index l.changes)
