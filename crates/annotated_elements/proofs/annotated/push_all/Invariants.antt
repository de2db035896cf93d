use Rattle.std.proofs.Common.{◌≡◌, ◌++◌, map, take}
use Rattle.annotated_elements.proofs.annotated.push_all.Given as goal

abbrev pub invariant-loop-element : goal.invariant-loop-element
invariant-loop-element g l = l.to.items ≡ l.initial.to.items ++ map (λ e. (e, l.annotation)) (take l.element-index l.elements)
