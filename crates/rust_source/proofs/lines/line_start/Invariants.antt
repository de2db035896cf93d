-- No byte that was passed is a line feed.
use Rattle.std.proofs.Common.{◌≢◌, ℕ, ◌<◌, ◌≤◌, slice_index}
use Rattle.rust_source.proofs.lines.line_start.Given as goal

abbrev pub invariant-loop-start : goal.invariant-loop-start
invariant-loop-start l = record {
  before : l.start ≤ l.at;
  no_feed : (k : ℕ) → l.start ≤ k → k < l.at → slice_index l.text k ≢ 10;
}

abbrev pub decreases-loop-start : goal.decreases-loop-start
decreases-loop-start l = l.start
