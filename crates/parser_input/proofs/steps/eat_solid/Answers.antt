use Rattle.std.proofs.Common.{◌≡◌, ◌∙◌, ℕ, List, refl, sym, ap, true, false}
use Rattle.rustc_lexer.proofs.Alike.{none_left}
use Rattle.parser_input.specs.Lines.{solid_len}
use Rattle.parser_input.proofs.Lines.{after, after-start, solid-more, solid-end}
use Rattle.parser_input.proofs.steps.eat_solid.Goals as goal

pub run-init : goal.run-init
run-init c = ap (λ (a : List ℕ). after (solid_len a) c.args.rest.now a) c.here-ahead.ensures ∙ after-start (solid_len c.args.rest.now) c.args.rest.now

pub run-preserved : goal.run-preserved
run-preserved c =
    rw (c.move_if.ensures, c.bump.ensures, c.is_whitespace-is_solid.ensures, c.first.ensures) refl
    ∙ solid-more c.run.rest c.run.ahead (λ e. let z : true ≡ false = sym (c.is_empty.ensures.1 e) ∙ c.run-test.true in absurd (cc)) ∙ c.run.invariant

pub returns : goal.returns
returns c = sym (solid-end c.run.rest c.run.ahead (none_left _ _ c.is_empty.ensures c.run-test.false)) ∙ c.run.invariant
