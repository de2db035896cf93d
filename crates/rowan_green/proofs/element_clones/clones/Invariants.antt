use Rattle.std.proofs.Common.{◌≡◌, take}
use Rattle.rowan_green.proofs.element_clones.clones.Given as goal

abbrev pub invariant-loop-element : goal.invariant-loop-element
invariant-loop-element l = l.all.items ≡ take l.element-index l.elements
