use Rattle.std.proofs.Common.{[], ◌∷◌}
use Rattle.rowan_green.specs.Arena.{IsSound}
use Rattle.rowan_green.proofs.arena.Arena.is_end_near.Given as goal

abbrev pub invariant-steps : goal.invariant-steps
invariant-steps l = IsSound l.self (l.at ∷ [])
