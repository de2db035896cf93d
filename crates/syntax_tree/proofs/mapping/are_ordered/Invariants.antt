use Rattle.std.proofs.Common.{◌≡◌, drop}
use Rattle.syntax_tree.specs.Mapping.{are_ordered}
use Rattle.syntax_tree.proofs.mapping.are_ordered.Given as goal

abbrev pub invariant-loop-entry : goal.invariant-loop-entry
invariant-loop-entry l = are_ordered l.entries ≡ are_ordered (drop l.entry-index l.entries)
