use Rattle.std.proofs.Common.{◌≡◌, ◌++◌, replicate}
use Rattle.std.specs.Prelude.{string_bytes}
use Rattle.std.specs.List.{concat}
use lib.Chars.{codes}
use Rattle.rowan.proofs.debug_tree.push_front.Given as goal

abbrev pub invariant-levels : goal.invariant-levels
invariant-levels l = string_bytes l.to ≡ string_bytes l.initial.to ++ concat (replicate l._level (codes "  "))
