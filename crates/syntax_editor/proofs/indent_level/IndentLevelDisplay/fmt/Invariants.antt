use Rattle.std.specs.Fmt.{HasWritten, IsPlainFormatter}
use Rattle.syntax_editor.specs.Indent.{spaces}
use Rattle.syntax_editor.proofs.indent_level.IndentLevelDisplay.fmt.Given as goal

abbrev pub invariant-loop-step : goal.invariant-loop-step
invariant-loop-step g l = IsPlainFormatter l.initial.f → HasWritten g.W.Write.write_str_gives l.initial.f (spaces l._step) l.f
