use Rattle.std.proofs.Common.{◌≡◌, ◌++◌, drop}
use Rattle.tree_rewrite.specs.Puts.{none_put}
use Rattle.tree_rewrite.proofs.put.push_none.Given as goal

abbrev pub invariant-loop-element : goal.invariant-loop-element
invariant-loop-element l = l.to.items ++ none_put (drop l._element-index l.below) ≡ l.initial.to.items ++ none_put l.below
