use Rattle.std.proofs.Common.{◌≡◌, drop, length}
use Rattle.parser_input.specs.Lines.{blank_len}
use Rattle.parser_input.proofs.Lines.{after}
use Rattle.parser_input.proofs.steps.eat_blank_lines.Given as goal

abbrev pub invariant-run : goal.invariant-run
invariant-run l = after (blank_len l.ahead) l.rest l.ahead ≡ drop (blank_len l.initial.rest) l.initial.rest

abbrev pub decreases-run : goal.decreases-run
decreases-run l = length l.ahead
