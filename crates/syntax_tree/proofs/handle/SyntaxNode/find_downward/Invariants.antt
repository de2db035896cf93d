use Rattle.std.proofs.Common.{◌≡◌}
use Rattle.rowan.specs.Place.{term_at}
use Rattle.rowan.proofs.Leaves.{count_in}
use Rattle.syntax_tree.specs.Handle.{element_of}
use Rattle.syntax_tree.specs.Search.{first_of}
use Rattle.syntax_tree.proofs.Descents.{found_from}
use Rattle.syntax_tree.proofs.handle.SyntaxNode.find_downward.Given as goal

abbrev pub invariant-loop-alloc : goal.invariant-loop-alloc
invariant-loop-alloc l = first_of l.kind l.range.start.0 l.range.end.0 l.self ≡ found_from l.kind l.range.start.0 l.range.end.0 l.element

abbrev pub decreases-loop-alloc : goal.decreases-loop-alloc
decreases-loop-alloc l = count_in (term_at (element_of l.element).place)
