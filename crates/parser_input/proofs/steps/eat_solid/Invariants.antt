use Rattle.std.proofs.Common.{◌≡◌, drop, length}
use Rattle.parser_input.specs.Lines.{solid_len}
use Rattle.parser_input.proofs.Lines.{after}
use Rattle.parser_input.proofs.steps.eat_solid.Given as goal

abbrev pub invariant-run : goal.invariant-run
invariant-run l = after (solid_len l.ahead) l.rest l.ahead ≡ drop (solid_len l.initial.rest) l.initial.rest

abbrev pub decreases-run : goal.decreases-run
decreases-run l = length l.ahead
