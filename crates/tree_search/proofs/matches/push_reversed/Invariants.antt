-- The stack, with the elements that are left.
use Rattle.std.proofs.Common.{◌≡◌, ◌++◌, reverse, vec_len}
use Rattle.tree_search.proofs.matches.push_reversed.Given as goal

abbrev pub invariant-elements : goal.invariant-elements
invariant-elements l = l.initial.stack.items ++ reverse l.initial.elements.items ≡ l.stack.items ++ reverse l.elements.items

abbrev pub decreases-elements : goal.decreases-elements
decreases-elements l = vec_len l.elements
