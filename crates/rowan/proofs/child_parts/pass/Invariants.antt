use Rattle.std.proofs.Common.{drop}
use Rattle.rowan_green.specs.Term.{children_of}
use Rattle.rowan.specs.ChildParts.{IsPassed}
use Rattle.rowan.proofs.child_parts.pass.Given as goal

abbrev pub invariant-loop-index : goal.invariant-loop-index
invariant-loop-index l = IsPassed (drop l.first (children_of l.node)) l.fn.skip (drop l.index (children_of l.node)) l.left
