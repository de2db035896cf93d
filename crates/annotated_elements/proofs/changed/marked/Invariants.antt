use Rattle.std.proofs.Common.{◌≡◌, ◌++◌}
use Rattle.std.specs.List.{zip}
use Rattle.syntax_tree.specs.Handle.{elements_left}
use Rattle.syntax_tree.specs.Search.{elements}
use Rattle.annotated_elements.specs.Found.{picked}
use Rattle.annotated_elements.proofs.changed.marked.Given as goal

abbrev pub invariant-loop-element : goal.invariant-loop-element
invariant-loop-element l =
    l.marked.items ++ picked (λ b. b) (zip (elements_left l.left) l.rest) ≡ picked (λ b. b) (zip (elements l.root) l.marks)
