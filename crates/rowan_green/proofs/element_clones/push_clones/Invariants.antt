use Rattle.std.proofs.Common.{◌≡◌, ◌++◌, take, drop}
use Rattle.rowan_green.proofs.element_clones.push_clones.Given as goal

abbrev pub invariant-loop-index : goal.invariant-loop-index
invariant-loop-index l = l.to.items ≡ l.initial.to.items ++ drop l.start (take l.index l.from.0)
