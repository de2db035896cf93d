use Rattle.std.proofs.Common.{◌≡◌, map}
use Rattle.std.specs.List.{All}
use Rattle.tree_rewrite.specs.Held.{FitsRow}
use Rattle.tree_rewrite.specs.Recorded.{recorded}
use Rattle.tree_rewrite.proofs.plan.tree_changes.Given as goal

abbrev pub invariant-loop-change : goal.invariant-loop-change
invariant-loop-change l = record { same : l.made.items ≡ map recorded l.yielded; fits : All FitsRow l.made.items }
