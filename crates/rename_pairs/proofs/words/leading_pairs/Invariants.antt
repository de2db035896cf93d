use Rattle.std.proofs.Common.{◌≡◌, ◌+◌, drop, map}
use Rattle.rename_pairs.specs.Words.{leading_pairs}
use Rattle.rename_pairs.proofs.words.leading_pairs.Given as goal

abbrev pub invariant-loop-i : goal.invariant-loop-i
invariant-loop-i l =
    l.i + leading_pairs (map (λ word. word.now) (drop l.i l.words)) ≡ leading_pairs (map (λ word. word.now) l.words)
