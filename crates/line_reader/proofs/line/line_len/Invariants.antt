use Rattle.std.proofs.Common.{◌≢◌, All, take}
use Rattle.line_reader.specs.Lines.{line_feed}
use Rattle.line_reader.proofs.line.line_len.Given as goal

abbrev pub invariant-loop-i : goal.invariant-loop-i
invariant-loop-i l = All (λ byte. byte ≢ line_feed) (take l.i l.bytes)
