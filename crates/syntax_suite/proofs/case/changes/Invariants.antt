use Rattle.std.specs.List.{All}
use Rattle.tree_rewrite.specs.Recorded.{IsOrdered, KeepsOneRoot}
use Rattle.syntax_suite.proofs.case.changes.Given as goal

abbrev pub invariant-loop-value : goal.invariant-loop-value
invariant-loop-value l = All IsOrdered l.changes.items × All KeepsOneRoot l.changes.items
