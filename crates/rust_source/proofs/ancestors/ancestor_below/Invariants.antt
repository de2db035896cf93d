-- No parent that was passed is of the kind.
use Rattle.std.proofs.Common.{◌≡◌, length}
use Rattle.parser_input.specs.Kind.{raw_of}
use Rattle.rust_source.specs.Elements.{ancestor_below}
use Rattle.rust_source.proofs.ancestors.ancestor_below.Given as goal

abbrev pub invariant-loop-below : goal.invariant-loop-below
invariant-loop-below l = ancestor_below (raw_of l.kind) l.node ≡ ancestor_below (raw_of l.kind) l.below

abbrev pub decreases-loop-below : goal.decreases-loop-below
decreases-loop-below l = length l.below.place.up
