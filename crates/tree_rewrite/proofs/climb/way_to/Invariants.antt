use Rattle.std.proofs.Common.{◌≡◌, ◌+◌, length}
use Rattle.rowan_green.specs.Forest.{Tree}
use Rattle.syntax_tree.specs.Element.{element_at}
use Rattle.tree_rewrite.specs.Moved.{way_to}
use Rattle.tree_rewrite.specs.Climbing.{after_numbers}
use Rattle.tree_rewrite.proofs.climb.way_to.Given as goal

abbrev pub invariant-loop-rest : goal.invariant-loop-rest
invariant-loop-rest l = (t : Tree) →
    way_to (length l.mapping + 1) l.mapping l.payload (element_at l.tree t l.way)
    ≡ after_numbers l.numbers.items (way_to (l.left + 1) l.mapping l.payload (element_at l.at t l.rest.items))

abbrev pub decreases-loop-rest : goal.decreases-loop-rest
decreases-loop-rest l = l.left
