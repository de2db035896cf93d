use Rattle.std.proofs.Common.{◌≡◌}
use Rattle.rowan_green.proofs.node.collected.Given as goal

abbrev pub invariant-loop-element : goal.invariant-loop-element
invariant-loop-element g l = l.all.items ≡ l.yielded
