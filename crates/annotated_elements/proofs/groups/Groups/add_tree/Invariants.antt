use Rattle.std.proofs.Common.{◌≡◌, ◌++◌, List, map}
use Rattle.std.specs.List.{zip}
use Rattle.syntax_tree.specs.Element.{Element, same_element}
use Rattle.syntax_tree.specs.Handle.{element_of, elements_left}
use Rattle.syntax_tree.specs.Search.{elements}
use Rattle.syntax_tree.specs.declared.element.SyntaxElement.{SyntaxElement}
use Rattle.annotated_elements.specs.Found.{picked}
use Rattle.annotated_elements.specs.Groups.{IsGroup}
use Rattle.annotated_elements.proofs.groups.Groups.add_tree.Given as goal

abbrev pub invariant-loop-element : goal.invariant-loop-element
invariant-loop-element l = (e : Element) (es : List SyntaxElement) → IsGroup l.initial.self e es
    → (now : List SyntaxElement) × IsGroup l.self e now
    × (now ++ picked (λ o. same_element o e) (zip (elements_left l.left) (map element_of l.rest)) ≡ es ++ picked (λ o. same_element o e) (zip (elements l.root) (map element_of l.origins)))
