use Rattle.std.proofs.Common.{◌≡◌, length, nat_eq}
use Rattle.std.specs.Cmp.Lexicographic.{pointwise}
use Rattle.rowan.proofs.cursor.same_way.Given as goal

abbrev pub invariant-up : goal.invariant-up
invariant-up l = pointwise nat_eq l.a.up l.b.up ≡ pointwise nat_eq l.one.up l.two.up

abbrev pub decreases-up : goal.decreases-up
decreases-up l = length l.one.up
