use Rattle.std.proofs.Common.{◌≡◌, ◌≤◌, length}
use Rattle.rowan.specs.Walk.{node_events}
use Rattle.rowan.proofs.preorder.next_node_event.Given as goal

abbrev pub invariant-loop-event : goal.invariant-loop-event
invariant-loop-event g l = record {
  can : (goal.iterator-loop-event g).can_next l.walk;
  finite : (goal.iterator-loop-event g).is_finite l.walk;
  same : node_events l.fn.walk ≡ node_events l.walk;
  fewer : length l.walk ≤ length l.fn.walk;
}
