use Rattle.std.proofs.Common.{◌≡◌, ◌+◌, ◌-◌, ◌≤◌, length}
use Rattle.lexed_text.specs.Inside.{taken}
use Rattle.lexed_text.specs.Runs.{run_tokens, RunsFrom}
use Rattle.lexed_text.proofs.runs.cut_runs.Given as goal

abbrev pub invariant-runs : goal.invariant-runs
invariant-runs l = record {
  within : l.at ≤ l.to;
  count : l.from + run_tokens (length l.runs.items) l.runs.items ≡ l.at;
  runs : RunsFrom l.from (taken l.from l.tokens) l.runs.items l.tokens;
}

abbrev pub decreases-runs : goal.decreases-runs
decreases-runs l = l.to - l.at
