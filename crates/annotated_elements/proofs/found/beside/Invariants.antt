use Rattle.std.proofs.Common.{◌≡◌, ◌++◌, map}
use Rattle.std.specs.List.{zip}
use Rattle.syntax_tree.specs.Element.{same_element}
use Rattle.syntax_tree.specs.Handle.{element_of, elements_left}
use Rattle.syntax_tree.specs.Search.{elements}
use Rattle.annotated_elements.specs.Found.{picked}
use Rattle.annotated_elements.proofs.found.beside.Given as goal

abbrev pub invariant-loop-element : goal.invariant-loop-element
invariant-loop-element l =
    l.found.items ++ picked (λ e. same_element e (element_of l.origin)) (zip (elements_left l.left) (map element_of l.rest))
    ≡ picked (λ e. same_element e (element_of l.origin)) (zip (elements l.root) (map element_of l.origins))
