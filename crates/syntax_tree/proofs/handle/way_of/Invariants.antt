use Rattle.std.proofs.Common.{◌≡◌, ◌++◌, length}
use Rattle.syntax_tree.proofs.handle.way_of.Given as goal

abbrev pub invariant-loop-place : goal.invariant-loop-place
invariant-loop-place l = l.way.items ++ l.place.up ≡ l.node.up

abbrev pub decreases-loop-place : goal.decreases-loop-place
decreases-loop-place l = length l.place.up
