-- The elements that were passed are no nodes of the kind.
use Rattle.std.proofs.Common.{◌≡◌}
use Rattle.syntax_tree.specs.Handle.{elements_left}
use Rattle.syntax_tree.specs.Search.{elements}
use Rattle.rust_source.specs.Nodes.{first_of_kind}
use Rattle.rust_source.proofs.making.first_node.Given as goal

abbrev pub invariant-loop-element : goal.invariant-loop-element
invariant-loop-element l = first_of_kind l.kind (elements l.fn.root) ≡ first_of_kind l.kind (elements_left l.element-iterator)
