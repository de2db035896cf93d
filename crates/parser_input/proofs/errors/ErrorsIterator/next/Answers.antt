-- One fault is given, and those after it are left.
use Rattle.std.proofs.Common.{◌∙◌, ◌+◌, ℕ, List, ◌∷◌, sym, ap, length, arith}
use Rattle.parser_input.specs.Faults.{faults_from}
use Rattle.parser_input.proofs.errors.ErrorsIterator.next.Goals as goal

step : goal.returns-in-Some-clause-steps
step c =
    let rest : List (ℕ × List ℕ) = faults_from (c.in-Some.leaf + 1) c.self.inside.leaves.now in
    sym c.self.view_is ∙ c.in-Some.ensures.1 ∙ ap (λ (w : List ℕ). (c.in-Some.leaf, w) ∷ rest) (sym c.text.ensures)

pub returns-in-Some-clause-steps : goal.returns-in-Some-clause-steps
returns-in-Some-clause-steps c = step c

pub returns-in-Some-clause-goes : goal.returns-in-Some-clause-goes
returns-in-Some-clause-goes c =
    let shorter = ap length (step c) in
    record { on = λ _. (tt, tt, omega arith); keeps = tt; rests = λ _. tt }
