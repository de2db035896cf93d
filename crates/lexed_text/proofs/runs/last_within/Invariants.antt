use Rattle.std.proofs.Common.{◌≡◌, ◌≤◌}
use Rattle.lexed_text.specs.Runs.{run_tokens}
use Rattle.lexed_text.proofs.runs.last_within.Given as goal

abbrev pub invariant-loop-run : goal.invariant-loop-run
invariant-loop-run l = record {
  run : l.at.run ≡ l.run-index;
  count : l.at.count ≡ run_tokens l.run-index l.runs;
  low : l.at.count ≤ l.most;
}
