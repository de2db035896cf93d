use Rattle.std.proofs.Common.{◌≡◌, ◌≤◌, ◌+◌, ◌-◌, length}
use Rattle.parser_events.proofs.Places.{pending_at}
use Rattle.parser_events.proofs.trivia.pending_end.Given as goal

-- what is pending from here on ends where it did
abbrev pub invariant-pending : goal.invariant-pending
invariant-pending l = (l.end ≤ length l.lexed.leaves) × (l.end + pending_at l.lexed.leaves l.end ≡ l.fn.start + pending_at l.lexed.leaves l.fn.start)

abbrev pub decreases-pending : goal.decreases-pending
decreases-pending l = length l.lexed.leaves - l.end
