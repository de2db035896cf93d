use Rattle.std.proofs.Common.{length, ap, ◌∙◌}
use Rattle.line_index.proofs.LineLemmas.{length-line_starts}
use Rattle.line_index.proofs.line_index.LineIndex.line_count.Goals as goal

pub returns : goal.returns
returns c =
    rw (← c.self.view_is) (ap length (c.as_slice.ensures.value ∙ c.self.invariant) ∙ length-line_starts c.self.inside.text.now)
