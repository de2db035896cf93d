use Rattle.std.proofs.Common.{◌≡◌, ◌≤◌, ◌<◌, ℕ, ◌++◌, map, drop, get_or}
use Rattle.text_diff.specs.Lines.{line_feed, lines}
use Rattle.text_diff.proofs.lines.lines.Given as goal

abbrev pub invariant-loop-i : goal.invariant-loop-i
invariant-loop-i l = record {
  split : map (λ line. line.now) l.found.items ++ lines (drop l.start l.text) ≡ lines l.text;
  order : l.start ≤ l.i;
  none : (k : ℕ) → l.start ≤ k → k < l.i → get_or l.text k 0 ≡ line_feed → ⊥;
}
