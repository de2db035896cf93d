use Rattle.std.proofs.Common.{◌≡◌, length}
use Rattle.tree_rewrite.specs.Orders.{in_order}
use Rattle.tree_rewrite.proofs.job.in_order.Given as goal

abbrev pub invariant-loop-a : goal.invariant-loop-a
invariant-loop-a l = in_order l.jobs l.order ≡ in_order l.jobs l.rest

abbrev pub decreases-loop-a : goal.decreases-loop-a
decreases-loop-a l = length l.rest
