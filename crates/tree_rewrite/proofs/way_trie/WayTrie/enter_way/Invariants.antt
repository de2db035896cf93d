use Rattle.std.proofs.Common.{◌≤◌, length, drop}
use Rattle.tree_rewrite.specs.WayTrie.{HasNode}
use Rattle.tree_rewrite.proofs.way_trie.WayTrie.enter_way.Given as goal

abbrev pub invariant-loop-depth : goal.invariant-loop-depth
invariant-loop-depth l = record {
  within : l.depth ≤ length l.way;
  has : HasNode (drop l.depth l.way) l.node l.fn.self l.self;
}

abbrev pub decreases-loop-depth : goal.decreases-loop-depth
decreases-loop-depth l = l.depth
