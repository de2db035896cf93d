use Rattle.std.proofs.Common.{◌≡◌, length}
use Rattle.std.specs.Prelude.{fold}
use Rattle.rowan.specs.Same.{numbers_fed}
use Rattle.rowan.proofs.cursor.hash_way.Given as goal

abbrev pub invariant-up : goal.invariant-up
invariant-up g l = fold g.H.Hasher.write l.initial.state (numbers_fed l.node.up) ≡ fold g.H.Hasher.write l.state (numbers_fed l.here.up)

abbrev pub decreases-up : goal.decreases-up
decreases-up g l = length l.here.up
