use Rattle.std.proofs.Common.{◌≡◌, ◌++◌}
use Rattle.tree_rewrite.proofs.changed.push_ranges.Given as goal

abbrev pub invariant-loop-range : goal.invariant-loop-range
invariant-loop-range l = l.to.items ≡ l.initial.to.items ++ l.yielded
