use Rattle.std.proofs.Common.{◌≡◌, length, reverse}
use Rattle.syntax_tree.specs.Element.{same_way}
use Rattle.tree_rewrite.proofs.ways.has_path.Given as goal

abbrev pub invariant-loop-last : goal.invariant-loop-last
invariant-loop-last l = same_way l.way (reverse l.path) ≡ same_way l.below (reverse l.rest)

abbrev pub decreases-loop-last : goal.decreases-loop-last
decreases-loop-last l = length l.rest
