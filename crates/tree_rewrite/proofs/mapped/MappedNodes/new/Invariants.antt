use Rattle.std.proofs.Common.{◌≡◌, ℕ, ◌≤◌, ◌++◌, ◌∷◌, [], length, drop}
use Rattle.rowan_green.specs.Forest.{Tree}
use Rattle.syntax_tree.specs.Element.{Way, element_at}
use Rattle.tree_rewrite.specs.WayTrie.{number_at, IsSound}
use Rattle.tree_rewrite.specs.Mapped.{last_of}
use Rattle.tree_rewrite.proofs.mapped.MappedNodes.new.Given as goal

abbrev pub invariant-loop-before : goal.invariant-loop-before
invariant-loop-before l = record {
  within : l.before ≤ length l.mapping;
  sound : IsSound l.inputs;
  numbers : (n : ℕ) (t : Tree) (w : Way) → number_at l.inputs (w ++ n ∷ []) ≡ last_of l.before (drop l.before l.mapping) (element_at n t w);
}

abbrev pub decreases-loop-before : goal.decreases-loop-before
decreases-loop-before l = l.before
