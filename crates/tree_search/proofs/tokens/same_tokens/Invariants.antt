-- What is left of both runs decides.
use Rattle.std.proofs.Common.{◌≡◌, length}
use Rattle.tree_search.specs.Elements.{same_tokens}
use Rattle.tree_search.proofs.tokens.same_tokens.Given as goal

abbrev pub invariant-elements : goal.invariant-elements
invariant-elements l = same_tokens l.one l.other ≡ same_tokens l.left l.right

abbrev pub decreases-elements : goal.decreases-elements
decreases-elements l = length l.left
