use Rattle.std.proofs.Common.{◌+◌, ◌*◌}
use Rattle.rowan.specs.Comparing.{PassesBoth, count_left}
use Rattle.rowan.proofs.text_compare.+same.Given as goal

abbrev pub decreases-same_within : goal.decreases-same_within
decreases-same_within l = 3 * (count_left l.a.now + count_left l.b.now)

abbrev pub decreases-same_heads : goal.decreases-same_heads
decreases-same_heads l = 3 * (count_left l.a.now + count_left l.b.now) + 1

abbrev pub decreases-same_front : goal.decreases-same_front
decreases-same_front l = 3 * (count_left l.a.now + count_left l.b.now) + 2

abbrev pub invariant-same_front-heads : goal.invariant-same_front-heads
invariant-same_front-heads l = PassesBoth l.initial.a l.initial.b l.a l.b

abbrev pub decreases-same_front-heads : goal.decreases-same_front-heads
decreases-same_front-heads l = l.a.left
