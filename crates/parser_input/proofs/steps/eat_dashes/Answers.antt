use Rattle.std.proofs.Common.{◌≡◌, ◌==◌, ◌∙◌, ℕ, refl, sym, ap, arith, drop, get_or, true, false}
use Rattle.std.proofs.lemmas.Bool.{ne_eqb}
use Rattle.rustc_lexer.specs.Characters.{size}
use Rattle.rustc_lexer.proofs.Runs.{run_more, run_none}
use Rattle.parser_input.specs.Lines.{dash, dashes}
use Rattle.parser_input.proofs.Lines.{dashes-size}
use Rattle.parser_input.proofs.steps.eat_dashes.Goals as goal

pub run-preserved : goal.run-preserved
unfolding dashes
run-preserved c =
    let pass : (get_or c.run.rest 0 0 == dash) ≡ true = cc in
    ap (λ z. drop (dashes z) z) c.bump.ensures ∙ run_more (λ (x : ℕ). x == dash) c.run.rest refl pass ∙ c.run.invariant

pub overflow_sub-result : goal.overflow_sub-result
unfolding dashes
overflow_sub-result c =
    let stop : (get_or c.run.rest 0 0 == dash) ≡ false = ne_eqb (get_or c.run.rest 0 0) dash (λ e. c.run-test.false (c.first.ensures ∙ e)) in
    let left = sym (ap (λ n. drop n c.run.rest) (run_none (λ (x : ℕ). x == dash) c.run.rest stop)) ∙ c.run.invariant in
    omega (arith, dashes-size c.args.rest.now, ap size left, c.remaining.ensures, c.remaining-start.ensures)

pub returns-clause-count : goal.returns-clause-count
unfolding dashes
returns-clause-count c =
    let stop : (get_or c.run.rest 0 0 == dash) ≡ false = ne_eqb (get_or c.run.rest 0 0) dash (λ e. c.run-test.false (c.first.ensures ∙ e)) in
    let left = sym (ap (λ n. drop n c.run.rest) (run_none (λ (x : ℕ). x == dash) c.run.rest stop)) ∙ c.run.invariant in
    omega (arith, dashes-size c.args.rest.now, ap size left, c.remaining.ensures, c.remaining-start.ensures)

pub returns-clause-rest : goal.returns-clause-rest
unfolding dashes
returns-clause-rest c =
    let stop : (get_or c.run.rest 0 0 == dash) ≡ false = ne_eqb (get_or c.run.rest 0 0) dash (λ e. c.run-test.false (c.first.ensures ∙ e)) in
    sym (ap (λ n. drop n c.run.rest) (run_none (λ (x : ℕ). x == dash) c.run.rest stop)) ∙ c.run.invariant
