use Rattle.std.proofs.Common.{◌≡◌, ◌≤◌, length, drop}
use Rattle.rowan.specs.Place.{term_by}
use Rattle.tree_rewrite.specs.Walk.{node_in}
use Rattle.tree_rewrite.proofs.nesting.node_by.Given as goal

abbrev pub invariant-loop-depth : goal.invariant-loop-depth
invariant-loop-depth l = record {
  within : l.depth ≤ length l.way;
  at : l.node ≡ node_in (term_by l.root (drop l.depth l.way));
}

abbrev pub decreases-loop-depth : goal.decreases-loop-depth
decreases-loop-depth l = l.depth
