use Rattle.std.proofs.Common.{◌≡◌, ◌++◌}
use Rattle.tree_rewrite.proofs.green.push_all.Given as goal

abbrev pub invariant-loop-element : goal.invariant-loop-element
invariant-loop-element l = l.to.items ≡ l.initial.to.items ++ l.yielded
