use Rattle.std.proofs.Common.{◌-◌, ◌≡◌, ◌+◌}
use Rattle.rowan_green.specs.Term.{children_of}
use Rattle.tree_rewrite.specs.Moved.{same_kinds}
use Rattle.tree_rewrite.proofs.moved.same_kinds.Given as goal

abbrev pub invariant-loop-index : goal.invariant-loop-index
invariant-loop-index l =
    same_kinds (children_of l.old) (children_of l.new) l.start (l.more + 1) ≡ same_kinds (children_of l.old) (children_of l.new) l.index (l.left + 1)

abbrev pub decreases-loop-index : goal.decreases-loop-index
decreases-loop-index l = l.count - l.index
