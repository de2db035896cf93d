-- A range operator or an operand is next.
use Rattle.rust_productions.proofs.Ranges.{operation-marked, operation-unmarked}
use Rattle.rust_productions.proofs.Seen.{saw-before}
use Rattle.rust_productions.proofs.Peeking.{peeks-then}
use Rattle.rust_productions.proofs.grammar.expressions.at_operation.Goals as goal

pub returns-in-Some-clause-sees : goal.returns-in-Some-clause-sees
returns-in-Some-clause-sees c = operation-marked _ c.in-Some.is c.range_mark.ensures.mark

pub returns-in-None-clause-sees : goal.returns-in-None-clause-sees
returns-in-None-clause-sees c = operation-unmarked c.in-None.is c.range_mark.ensures.mark (saw-before c.range_mark.ensures.peeks.same c.at_operand.ensures.sees)

pub returns-in-None-clause-peeks : goal.returns-in-None-clause-peeks
returns-in-None-clause-peeks c = peeks-then c.range_mark.ensures.peeks c.at_operand.ensures.peeks
