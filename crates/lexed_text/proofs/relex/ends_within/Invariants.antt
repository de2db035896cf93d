use Rattle.std.proofs.Common.{◌≡◌, ◌-◌, ◌≤◌, length}
use Rattle.lexed_text.specs.Inside.{taken}
use Rattle.lexed_text.specs.Runs.{run_tokens, run_bytes}
use Rattle.lexed_text.proofs.relex.ends_within.Given as goal

abbrev pub invariant-loop-run : goal.invariant-loop-run
invariant-loop-run l = record {
  count : l.end.count ≡ run_tokens l.run-index l.runs;
  bytes : l.end.bytes ≡ run_bytes l.run-index l.runs;
  within : l.end.count ≤ length l.tokens;
  is_end : l.end.bytes ≡ taken l.end.count l.tokens;
  low : l.end.bytes ≤ l.limit;
}

abbrev pub invariant-tokens : goal.invariant-tokens
invariant-tokens l = record {
  within : l.end.count ≤ length l.tokens;
  is_end : l.end.bytes ≡ taken l.end.count l.tokens;
  low : l.end.bytes ≤ l.limit;
}

abbrev pub decreases-tokens : goal.decreases-tokens
decreases-tokens l = length l.tokens - l.end.count
