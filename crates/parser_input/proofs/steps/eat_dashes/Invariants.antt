use Rattle.std.proofs.Common.{◌≡◌, drop, length}
use Rattle.parser_input.specs.Lines.{dashes}
use Rattle.parser_input.proofs.steps.eat_dashes.Given as goal

abbrev pub invariant-run : goal.invariant-run
invariant-run l = drop (dashes l.rest) l.rest ≡ drop (dashes l.initial.rest) l.initial.rest

abbrev pub decreases-run : goal.decreases-run
decreases-run l = length l.rest
