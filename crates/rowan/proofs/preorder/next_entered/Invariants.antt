use Rattle.std.proofs.Common.{◌≡◌, ◌≤◌, length}
use Rattle.rowan.specs.Walk.{entered}
use Rattle.rowan.proofs.preorder.next_entered.Given as goal

abbrev pub invariant-loop-event : goal.invariant-loop-event
invariant-loop-event g l = record {
  can : (goal.iterator-loop-event g).can_next l.walk;
  finite : (goal.iterator-loop-event g).is_finite l.walk;
  same : entered l.fn.walk ≡ entered l.walk;
  fewer : length l.walk ≤ length l.fn.walk;
}
