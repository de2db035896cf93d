use Rattle.std.proofs.Common.{◌≡◌, ◌≤◌, ◌++◌, ◌∷◌, [], length, map, drop, option_copied}
use Rattle.rowan_green.specs.Forest.{Tree}
use Rattle.tree_rewrite.specs.WayTrie.{node_at}
use Rattle.tree_rewrite.specs.Mapped.{images_to}
use Rattle.tree_rewrite.proofs.mapped.MappedNodes.images.Given as goal

abbrev pub invariant-loop-depth : goal.invariant-loop-depth
invariant-loop-depth l = record {
  within : l.depth ≤ length l.way;
  at : l.node ≡ node_at l.inputs (drop l.depth l.way ++ l.tree ∷ []);
  images : (t : Tree) → map option_copied l.images.items ≡ images_to l.mapping l.tree t (drop l.depth l.way);
}

abbrev pub decreases-loop-depth : goal.decreases-loop-depth
decreases-loop-depth l = l.depth
