use Rattle.std.proofs.Common.{◌≡◌, ◌≤◌, ◌++◌, drop, length}
use Rattle.std.specs.List.{zip}
use Rattle.syntax_tree.proofs.mapping.pairs_of.Given as goal

abbrev pub invariant-loop-k : goal.invariant-loop-k
invariant-loop-k l = record {
  inputs : l.count ≤ length l.inputs;
  outputs : l.count ≤ length l.outputs;
  paired : l.pairs.items ++ zip (drop l.k l.inputs) (drop l.k l.outputs) ≡ zip l.inputs l.outputs;
}
