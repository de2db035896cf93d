use Rattle.std.proofs.Common.{◌≡◌, drop}
use Rattle.rename_pairs.specs.Pairs.{has_old}
use Rattle.rename_pairs.proofs.pairs.has_old.Given as goal

abbrev pub invariant-loop-pair : goal.invariant-loop-pair
invariant-loop-pair l = has_old l.name (drop l.pair-index l.pairs) ≡ has_old l.name l.pairs
