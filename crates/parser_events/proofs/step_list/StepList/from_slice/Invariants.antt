use Rattle.std.proofs.Common.{◌≡◌, ◌≤◌, drop, length}
use Rattle.parser_events.proofs.step_list.StepList.from_slice.Given as goal

-- the last steps are in the list
abbrev pub invariant-steps : goal.invariant-steps
invariant-steps l = (l.left ≤ length l.steps) × (l.list ≡ drop l.left l.steps)

abbrev pub decreases-steps : goal.decreases-steps
decreases-steps l = l.left
