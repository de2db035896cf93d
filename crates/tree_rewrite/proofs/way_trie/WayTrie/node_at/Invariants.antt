use Rattle.std.proofs.Common.{◌≡◌, ◌≤◌, length, drop}
use Rattle.tree_rewrite.specs.WayTrie.{node_at}
use Rattle.tree_rewrite.proofs.way_trie.WayTrie.node_at.Given as goal

abbrev pub invariant-loop-depth : goal.invariant-loop-depth
invariant-loop-depth l = record {
  within : l.depth ≤ length l.way;
  at : l.node ≡ node_at l.self (drop l.depth l.way);
}

abbrev pub decreases-loop-depth : goal.decreases-loop-depth
decreases-loop-depth l = l.depth
