use Rattle.std.proofs.Common.{◌≡◌}
use Rattle.parser_input.specs.Faults.{faults_from}
use Rattle.parser_input.proofs.errors.next_fault.Given as goal

abbrev pub invariant-loop-i : goal.invariant-loop-i
invariant-loop-i l = faults_from l.start l.leaves ≡ faults_from l.i l.leaves
