use Rattle.std.proofs.Common.{◌≡◌, ◌++◌, chars, drop, length, string_bytes}
use Rattle.shown_lines.specs.Shown.{caret_line}
use Rattle.shown_lines.proofs.caret_line.Given as goal

abbrev pub invariant-loop-c : goal.invariant-loop-c
invariant-loop-c l =
    string_bytes l.front ++ caret_line l.left (drop (length l.yielded) (chars l.line)) ≡ caret_line l.fn.col (chars l.line)
