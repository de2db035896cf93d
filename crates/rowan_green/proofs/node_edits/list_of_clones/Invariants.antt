use Rattle.std.proofs.Common.{◌≡◌}
use Rattle.rowan_green.proofs.node_edits.list_of_clones.Given as goal

abbrev pub invariant-loop-child : goal.invariant-loop-child
invariant-loop-child l = l.elements.items ≡ l.yielded
