-- Each path sees what the look asks.
use Rattle.grammar_reader.proofs.Ends.{ended-at-brace, ended-at-end, not-at-brace, not-ended}
use Rattle.rust_productions.proofs.Looking.{left-arm, left-not, saw-arm, saw-not}
use Rattle.grammar_reader.proofs.grammar.list_end.at_end_of.Goals as goal

pub returns-in-EOF-clause-sees : goal.returns-in-EOF-clause-sees
returns-in-EOF-clause-sees c cond = ended-at-end c.args.end (left-arm c.in-EOF.is (c.current.ensures.end cond))

pub returns-in-Brace-clause-sees : goal.returns-in-Brace-clause-sees
returns-in-Brace-clause-sees c cond = rw c.in-Brace.is (ended-at-brace (saw-arm c.in-R_CURLY.is (c.current.ensures.sees cond)))

pub returns-in-Input-clause-sees : goal.returns-in-Input-clause-sees
returns-in-Input-clause-sees c cond = rw c.in-Input.is (not-at-brace (left-arm c.in-R_CURLY.is (c.current.ensures.end cond)))

pub returns-in_default-clause-sees : goal.returns-in_default-clause-sees
returns-in_default-clause-sees c cond = not-ended c.args.end (left-not c.in_default.not-EOF (c.current.ensures.end cond)) (saw-not c.in_default.not-R_CURLY (c.current.ensures.sees cond))
