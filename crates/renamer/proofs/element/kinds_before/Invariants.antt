use Rattle.std.proofs.Common.{length}
use Rattle.syntax_tree.specs.Handle.{element_of}
use Rattle.renamer.proofs.Siblings.{AreSeen, from_sibling}
use Rattle.renamer.proofs.element.kinds_before.Given as goal

abbrev pub invariant-loop-sibling : goal.invariant-loop-sibling
invariant-loop-sibling l = AreSeen l.kinds.items l.sibling (element_of l.element).place

abbrev pub decreases-loop-sibling : goal.decreases-loop-sibling
decreases-loop-sibling l = length (from_sibling l.sibling)
