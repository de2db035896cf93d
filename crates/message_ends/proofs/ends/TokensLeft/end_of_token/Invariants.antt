use Rattle.std.proofs.Common.{length}
use Rattle.message_ends.specs.TokensLeft.{spans_left, BeginFrom, TellsAlike}
use Rattle.message_ends.proofs.ends.TokensLeft.end_of_token.Given as goal

-- the tokens that are skipped begin before the place, and the others come in order
abbrev pub invariant-skip : goal.invariant-skip
invariant-skip l = TellsAlike l.fn.place (spans_left l.self) (spans_left l.fn.self) × BeginFrom 0 (spans_left l.self)

abbrev pub decreases-skip : goal.decreases-skip
decreases-skip l = length (spans_left l.self)
