-- The matches so far, and the elements that are still to be searched.
use Rattle.std.proofs.Common.{◌≡◌, ◌∷◌, [], reverse}
use Rattle.syntax_tree.specs.declared.element.SyntaxElement.TheVariants.{Node}
use Rattle.tree_search.proofs.Searches.{Continues}
use Rattle.tree_search.proofs.Sizes.{size}
use Rattle.tree_search.proofs.matches.search.Given as goal

abbrev pub invariant-stack : goal.invariant-stack
invariant-stack l = Continues l.pattern (Node l.root ∷ []) l.stack.items l.matches.items

abbrev pub decreases-stack : goal.decreases-stack
decreases-stack l = size (reverse l.stack.items)
