-- The places among the leaves so far.
use Rattle.std.proofs.Common.{◌≡◌, is_some}
use Rattle.std.specs.List.{filter}
use Rattle.tree_patterns.specs.Places.{place_of}
use Rattle.tree_patterns.proofs.pattern.Pattern.places.Given as goal

abbrev pub invariant-loop-leaf : goal.invariant-loop-leaf
invariant-loop-leaf l = l.places.items ≡ filter (λ x. is_some (place_of x.kind)) l.yielded
