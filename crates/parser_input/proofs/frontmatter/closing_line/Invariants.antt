use Rattle.std.proofs.Common.{◌≡◌, true, length}
use Rattle.parser_input.specs.Preface.{closing_line}
use Rattle.parser_input.proofs.frontmatter.closing_line.Given as goal

abbrev pub invariant-lines : goal.invariant-lines
invariant-lines l = closing_line l.count true l.rest ≡ closing_line l.count true l.initial.rest

abbrev pub decreases-lines : goal.decreases-lines
decreases-lines l = length l.rest
