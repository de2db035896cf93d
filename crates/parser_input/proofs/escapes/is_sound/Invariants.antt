use Rattle.std.proofs.Common.{◌≡◌, length}
use Rattle.parser_input.specs.Escapes.{is_sound}
use Rattle.parser_input.proofs.escapes.is_sound.Given as goal

abbrev pub invariant-units : goal.invariant-units
invariant-units l = is_sound l.rules 0 l.rest ≡ is_sound l.rules 0 l.initial.rest

abbrev pub decreases-units : goal.decreases-units
decreases-units l = length l.rest
