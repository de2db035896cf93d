use Rattle.std.proofs.Common.{◌≡◌, ◌++◌, chars, drop, length}
use Rattle.path_globs.proofs.chars_of.Given as goal

abbrev pub invariant-loop-c : goal.invariant-loop-c
invariant-loop-c l = l.found.items ++ drop (length l.yielded) (chars l.text) ≡ chars l.text
