use Rattle.std.proofs.Common.{◌≡◌, ◌+◌, ◌++◌, drop, length, map}
use Rattle.text_diff.specs.Bytes.{starts_from}
use Rattle.text_diff.specs.Lines.{joined}
use Rattle.text_diff.proofs.byte_change.starts.Given as goal

abbrev pub invariant-loop-line : goal.invariant-loop-line
invariant-loop-line l = record {
  found : l.found.items ++ starts_from l.at (map (λ x. x.now) (drop l.line-index l.lines)) ≡ starts_from 0 (map (λ x. x.now) l.lines);
  at : l.at + length (joined (map (λ x. x.now) (drop l.line-index l.lines))) ≡ length (joined (map (λ x. x.now) l.lines));
}
