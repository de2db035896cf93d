use Rattle.std.proofs.Common.{◌≡◌, take}
use Rattle.line_index.specs.Lines.{line_starts}
use Rattle.line_index.proofs.line_index.line_starts.Given as goal

abbrev pub invariant-loop-i : goal.invariant-loop-i
invariant-loop-i l = l.starts.items ≡ line_starts (take l.i l.text)
