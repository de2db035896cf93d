use Rattle.std.proofs.Common.{◌≡◌, ◌≤◌, ◌-◌}
use Rattle.parser_events.specs.Trivia.{walk}
use Rattle.parser_events.proofs.Walks.{backwards, walk_at}
use Rattle.parser_events.proofs.trivia.first_inside.Given as goal

-- the walk goes on from here to where all of it ends
abbrev pub invariant-back : goal.invariant-back
invariant-back l =
    (l.start ≤ l.place) × (l.place ≤ l.first) × (l.first ≤ l.end)
    × (walk_at l.lexed.leaves l.start l.end l.place l.first ≡ walk 0 0 (backwards l.lexed.leaves l.start l.end))

abbrev pub decreases-back : goal.decreases-back
decreases-back l = l.place - l.start
