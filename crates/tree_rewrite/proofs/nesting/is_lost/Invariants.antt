use Rattle.std.proofs.Common.{◌≡◌, ◌≤◌, ◌&&◌, not, length, drop}
use Rattle.std.specs.List.{list_any}
use Rattle.rowan.specs.Place.{term_by}
use Rattle.tree_rewrite.specs.Change.{is_node_by_node}
use Rattle.tree_rewrite.specs.Held.{leads_through}
use Rattle.tree_rewrite.specs.Walk.{node_in}
use Rattle.tree_rewrite.specs.WayTrie.{node_at}
use Rattle.tree_rewrite.proofs.nesting.is_lost.Given as goal

abbrev pub invariant-loop-depth : goal.invariant-loop-depth
invariant-loop-depth l = record {
  within : l.depth ≤ length l.way;
  at : l.node ≡ node_at l.held (drop l.depth l.way);
  parent : l.parent ≡ node_in (term_by l.root (drop l.depth l.way));
  lost : l.lost ≡ list_any (λ r. leads_through (drop l.depth l.way) r && not (is_node_by_node l.root r)) l.changes;
}

abbrev pub decreases-loop-depth : goal.decreases-loop-depth
decreases-loop-depth l = l.depth
