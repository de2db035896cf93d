use Rattle.std.proofs.Common.{◌≡◌, ◌++◌, drop}
use Rattle.annotated_elements.specs.Groups.{collected}
use Rattle.annotated_elements.proofs.annotated.collected.Given as goal

abbrev pub invariant-loop-end : goal.invariant-loop-end
invariant-loop-end g l = l.all.items ++ collected l.groups (drop l.end-index l.ends) ≡ collected l.groups l.ends
