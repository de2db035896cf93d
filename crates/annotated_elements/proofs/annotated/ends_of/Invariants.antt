use Rattle.std.proofs.Common.{◌≡◌, ◌++◌, drop}
use Rattle.annotated_elements.specs.Annotated.{elements_of}
use Rattle.annotated_elements.specs.Groups.{ends_of}
use Rattle.annotated_elements.proofs.annotated.ends_of.Given as goal

abbrev pub invariant-loop-element : goal.invariant-loop-element
invariant-loop-element g l =
    elements_of l.ends.items ++ ends_of l.mapping (elements_of (drop l.element-index l.annotations)) ≡ ends_of l.mapping (elements_of l.annotations)
