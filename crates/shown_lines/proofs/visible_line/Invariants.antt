use Rattle.std.proofs.Common.{◌≡◌, ◌++◌, chars, drop, length, string_bytes}
use Rattle.shown_lines.specs.Shown.{visible_line}
use Rattle.shown_lines.proofs.visible_line.Given as goal

abbrev pub invariant-loop-c : goal.invariant-loop-c
invariant-loop-c l =
    string_bytes l.shown ++ visible_line (drop (length l.yielded) (chars l.line)) ≡ visible_line (chars l.line)
