use Rattle.std.proofs.Common.{◌≡◌, length}
use Rattle.rowan.specs.Place.{top_of}
use Rattle.rowan.proofs.cursor.SyntaxNode.tree_top.Given as goal

abbrev pub invariant-loop-parent : goal.invariant-loop-parent
invariant-loop-parent l = top_of l.top ≡ top_of l.self

abbrev pub decreases-loop-parent : goal.decreases-loop-parent
decreases-loop-parent l = length l.top.up
