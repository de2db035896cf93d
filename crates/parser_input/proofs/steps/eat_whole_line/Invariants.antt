use Rattle.std.proofs.Common.{◌≡◌, length}
use Rattle.parser_input.specs.Lines.{after_line}
use Rattle.parser_input.proofs.steps.eat_whole_line.Given as goal

abbrev pub invariant-line : goal.invariant-line
invariant-line l = after_line l.rest ≡ after_line l.initial.rest

abbrev pub decreases-line : goal.decreases-line
decreases-line l = length l.rest
