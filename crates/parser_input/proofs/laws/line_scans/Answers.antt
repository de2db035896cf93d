use Rattle.parser_input.proofs.LineScans.{blank-lines, solid-part}
use Rattle.parser_input.proofs.laws.line_scans.Goals as goal

pub returns-clause-blank : goal.returns-clause-blank
returns-clause-blank c = blank-lines

pub returns-clause-solid : goal.returns-clause-solid
returns-clause-solid c = solid-part
