use Rattle.std.proofs.Common.{◌≡◌, ◌+◌, ◌-◌, ◌≤◌, drop}
use Rattle.text_diff.specs.Hunks.{group_len}
use Rattle.text_diff.proofs.unified.group_len.Given as goal

abbrev pub invariant-loop-len : goal.invariant-loop-len
invariant-loop-len l = record {
  some : 1 ≤ l.len;
  near : group_len l.changes + 1 ≡ l.len + group_len (drop (l.len - 1) l.changes);
}
