use Rattle.std.proofs.Common.{◌≡◌, [], drop, true, false}
use Rattle.syntax_tree.specs.Element.{Element}
use Rattle.annotated_elements.specs.Annotated.{elements_of}
use Rattle.annotated_elements.specs.Groups.{is_among, IsGroup}
use Rattle.annotated_elements.proofs.groups.Groups.new.Given as goal

abbrev pub invariant-loop-origin : goal.invariant-loop-origin
invariant-loop-origin g l = (e : Element) → is_among e (elements_of l.origins) ≡ true → is_among e (elements_of (drop l.origin-index l.origins)) ≡ false → IsGroup l.groups e []
