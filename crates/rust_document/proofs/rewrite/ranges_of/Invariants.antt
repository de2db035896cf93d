use Rattle.std.proofs.Common.{◌≡◌, map, take}
use Rattle.rust_document.specs.Committed.{annotated_ends, bounds_of}
use Rattle.rust_document.proofs.rewrite.ranges_of.Given as goal

abbrev pub invariant-loop-element : goal.invariant-loop-element
invariant-loop-element l = map annotated_ends l.ranges.items ≡ map bounds_of (take l.element-index l.found)
