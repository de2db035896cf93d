use Rattle.std.proofs.Common.{◌≡◌, ◌-◌, length}
use Rattle.tree_rewrite.specs.Below.{with_row, lists_of}
use Rattle.tree_rewrite.proofs.lists.push_row.Given as goal

abbrev pub invariant-loop-index : goal.invariant-loop-index
invariant-loop-index l = with_row l.number l.start l.more (lists_of l.initial.lists.items) ≡ with_row l.number l.index l.left (lists_of l.lists.items)

abbrev pub decreases-loop-index : goal.decreases-loop-index
decreases-loop-index l = length l.lists.items - l.index
