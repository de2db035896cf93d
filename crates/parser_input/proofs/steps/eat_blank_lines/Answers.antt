use Rattle.std.proofs.Common.{◌≡◌, ◌∙◌, ℕ, List, refl, sym, ap, get_or, true, false}
use Rattle.rustc_lexer.specs.Characters.{is_whitespace}
use Rattle.rustc_lexer.proofs.Runs.{run_shorter}
use Rattle.rustc_lexer.proofs.Wide.{white_zero}
use Rattle.parser_input.specs.Lines.{blank_len}
use Rattle.parser_input.proofs.Lines.{after, after-start, blank-more, blank-end}
use Rattle.parser_input.proofs.steps.eat_blank_lines.Goals as goal

pub run-init : goal.run-init
run-init c = ap (λ (a : List ℕ). after (blank_len a) c.args.rest.now a) c.here-ahead.ensures ∙ after-start (blank_len c.args.rest.now) c.args.rest.now

pub run-smaller : goal.run-smaller
run-smaller c =
    let white : is_whitespace (get_or c.run.ahead 0 0) ≡ true = cc in
    rw c.bump.ensures (run_shorter is_whitespace c.run.ahead white_zero white)

pub run-preserved : goal.run-preserved
run-preserved c =
    let white : is_whitespace (get_or c.run.ahead 0 0) ≡ true = cc in
    rw (c.move_if.ensures, c.bump.ensures, c.first-ends_line.ensures) refl ∙ blank-more c.run.rest c.run.ahead white_zero white ∙ c.run.invariant

pub returns : goal.returns
returns c =
    let stop : is_whitespace (get_or c.run.ahead 0 0) ≡ false = cc in
    sym (blank-end c.run.rest c.run.ahead stop) ∙ c.run.invariant
