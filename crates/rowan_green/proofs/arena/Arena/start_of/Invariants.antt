use Rattle.std.proofs.Common.{◌≡◌, [], ◌∷◌}
use Rattle.rowan_green.specs.Arena.{IsSound, item_in}
use Rattle.rowan_green.proofs.ArenaItems.{reach}
use Rattle.rowan_green.proofs.arena.Arena.start_of.Given as goal

abbrev pub invariant-down : goal.invariant-down
invariant-down l = record { sound : IsSound l.self (l.at ∷ []); same : (item_in l.self l.at).start ≡ (item_in l.self l.fn.entry).start }

abbrev pub decreases-down : goal.decreases-down
decreases-down l = reach l.at
