use Rattle.std.proofs.Common.{◌+◌}
use Rattle.rowan_green.proofs.element_list_join.+joined.Given as goal

abbrev pub decreases-joined : goal.decreases-joined
decreases-joined l = l.left.now.value.1 + l.right.now.value.1
