use Rattle.std.proofs.Common.{◌-◌, ◌≡◌, ◌≤◌, take}
use Rattle.text_changes.proofs.difference.common_front.Given as goal

abbrev pub invariant-loop-len : goal.invariant-loop-len
invariant-loop-len l = (l.len ≤ l.most) × (take l.len l.old ≡ take l.len l.new)

abbrev pub decreases-loop-len : goal.decreases-loop-len
decreases-loop-len l = l.most - l.len
