use Rattle.std.proofs.Common.{◌≡◌, ◌+◌}
use Rattle.syntax_tree.specs.Handle.{element_of}
use Rattle.annotated_elements.specs.Following.{followed, followed_within}
use Rattle.annotated_elements.proofs.following.end_of.Given as goal

abbrev pub invariant-loop-at : goal.invariant-loop-at
invariant-loop-at l = followed_within (l.left + 1) l.mapping (element_of l.at) ≡ followed l.mapping (element_of l.element)

abbrev pub decreases-loop-at : goal.decreases-loop-at
decreases-loop-at l = l.left
