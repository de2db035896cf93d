use Rattle.std.proofs.Common.{◌≡◌, ◌≤◌, ◌+◌, ◌-◌, length}
use Rattle.parser_events.proofs.Places.{reach_at}
use Rattle.parser_events.proofs.shortcuts.token_end.Given as goal

-- the tokens that are left end where all do
abbrev pub invariant-tokens : goal.invariant-tokens
invariant-tokens l = (l.end ≤ length l.lexed.leaves) × (l.end + reach_at l.lexed.leaves l.left l.end ≡ l.fn.start + reach_at l.lexed.leaves l.fn.n l.fn.start)

abbrev pub decreases-tokens : goal.decreases-tokens
decreases-tokens l = length l.lexed.leaves - l.end
