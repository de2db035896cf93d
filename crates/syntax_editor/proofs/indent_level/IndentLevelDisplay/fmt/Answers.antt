use Rattle.std.proofs.Common.{◌≡◌, ℕ, ◌+◌, ◌*◌, replicate, ap, ◌∙◌, arith, rules}
use Rattle.std.proofs.Output.{has_written_append, has_written_of_eq}
use Rattle.std.proofs.lemmas.List.{replicate-append-replicate}
use Rattle.syntax_editor.specs.Indent.{space}
use Rattle.syntax_editor.proofs.indent_level.IndentLevelDisplay.fmt.Goals as goal

-- four more spaces a step
pub loop-step-preserved : goal.loop-step-preserved
loop-step-preserved g c = λ plain.
    let more : c.loop-step._step * 4 + 4 ≡ (c.loop-step._step + 1) * 4 = omega arith in
    let text = replicate-append-replicate (c.loop-step._step * 4) 4 space ∙ ap (λ (k : ℕ). replicate k space) more in
    has_written_of_eq _ _ _ _ _ text (has_written_append _ _ _ _ _ _ (c.loop-step.invariant plain) (search rules))
