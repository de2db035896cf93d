use Rattle.std.proofs.Common.{◌≡◌, [], ◌∷◌}
use Rattle.rowan_green.specs.Arena.{IsSound, item_in, item_end}
use Rattle.rowan_green.proofs.ArenaItems.{reach}
use Rattle.rowan_green.proofs.arena.Arena.end_of.Given as goal

abbrev pub invariant-down : goal.invariant-down
invariant-down l = record { sound : IsSound l.self (l.at ∷ []); same : item_end (item_in l.self l.at) ≡ item_end (item_in l.self l.fn.entry) }

abbrev pub decreases-down : goal.decreases-down
decreases-down l = reach l.at
