use Rattle.std.proofs.Common.{◌≡◌, length}
use Rattle.rowan.specs.Leaves.{tokens_before}
use Rattle.syntax_editor.specs.Indent.{level_at}
use Rattle.syntax_editor.proofs.indent_level.level_at.Given as goal

abbrev pub invariant-loop-level : goal.invariant-loop-level
invariant-loop-level l = level_at l.place ≡ level_at l.fn.token

abbrev pub decreases-loop-level : goal.decreases-loop-level
decreases-loop-level l = length (tokens_before l.place)
