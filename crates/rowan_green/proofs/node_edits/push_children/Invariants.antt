use Rattle.std.proofs.Common.{◌≡◌, ◌++◌, take, drop}
use Rattle.rowan_green.specs.Term.{children_of}
use Rattle.rowan_green.proofs.node_edits.push_children.Given as goal

abbrev pub invariant-loop-index : goal.invariant-loop-index
invariant-loop-index l = l.to.items ≡ l.initial.to.items ++ drop l.start (take l.index (children_of l.from))
