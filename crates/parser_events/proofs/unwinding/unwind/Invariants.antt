use Rattle.std.proofs.Common.{◌≡◌, ◌≤◌, [], length, map, reverse, take}
use Rattle.parser_events.specs.Seen.{event_of, state_of}
use Rattle.parser_events.specs.Unwinding.{unwind}
use Rattle.parser_events.proofs.unwinding.unwind.Given as goal

abbrev pub invariant-entries : goal.invariant-entries
invariant-entries l =
    (l.index ≤ length l.events)
    × (unwind (reverse (map event_of (take l.index l.events))) (state_of l.unwinding) ≡ unwind (reverse (map event_of l.events)) (record { pending = []; laid = [] }))

abbrev pub decreases-entries : goal.decreases-entries
decreases-entries l = l.index
