use Rattle.std.proofs.Common.{◌≡◌, length}
use Rattle.syntax_tree.specs.Element.{same_way}
use Rattle.syntax_tree.proofs.handle.SyntaxNode.stands_at.Given as goal

abbrev pub invariant-loop-place : goal.invariant-loop-place
invariant-loop-place l = same_way l.self.place.up l.way ≡ same_way l.place.up l.rest

abbrev pub decreases-loop-place : goal.decreases-loop-place
decreases-loop-place l = length l.place.up
