use Rattle.std.proofs.Common.{◌≡◌, ◌-◌, ◌<◌, ◌≤◌, ℕ, length}
use Rattle.lexed_text.specs.Inside.{left}
use Rattle.lexed_text.proofs.relex.pass.Given as goal

abbrev pub invariant-tokens : goal.invariant-tokens
invariant-tokens l = record {
  onward : l.fn.from.count ≤ l.at.count;
  within : l.at.count ≤ length l.tokens;
  bytes : l.at.bytes ≡ left l.at.count l.tokens;
  passed : (i : ℕ) → l.fn.from.count ≤ i → i < l.at.count → l.most < left i l.tokens;
}

abbrev pub decreases-tokens : goal.decreases-tokens
decreases-tokens l = length l.tokens - l.at.count
