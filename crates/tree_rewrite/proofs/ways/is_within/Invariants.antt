use Rattle.std.proofs.Common.{◌≡◌, length}
use Rattle.tree_rewrite.specs.Change.{is_within}
use Rattle.tree_rewrite.proofs.ways.is_within.Given as goal

abbrev pub invariant-loop-rest : goal.invariant-loop-rest
invariant-loop-rest l = is_within l.first l.more l.way ≡ is_within l.first l.more l.rest

abbrev pub decreases-loop-rest : goal.decreases-loop-rest
decreases-loop-rest l = length l.rest
