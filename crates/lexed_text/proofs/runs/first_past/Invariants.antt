use Rattle.std.proofs.Common.{◌≡◌, ◌-◌, ◌≤◌, length}
use Rattle.lexed_text.specs.Runs.{run_tokens}
use Rattle.lexed_text.proofs.runs.first_past.Given as goal

abbrev pub invariant-runs : goal.invariant-runs
invariant-runs l = record {
  onward : l.fn.from.run ≤ l.at.run;
  within : l.at.run ≤ length l.runs;
  count : l.at.count ≡ run_tokens l.at.run l.runs;
}

abbrev pub decreases-runs : goal.decreases-runs
decreases-runs l = length l.runs - l.at.run
