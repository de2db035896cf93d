-- The elements so far are copied.
use Rattle.std.proofs.Common.{◌≡◌, take}
use Rattle.tree_search.proofs.matching.Binding.copy_of.Given as goal

abbrev pub invariant-loop-element : goal.invariant-loop-element
invariant-loop-element l = l.copies.items ≡ take l.element-index l.elements
