use Rattle.std.proofs.Common.{◌≡◌, ◌<◌, ◌⊎◌, ℕ, drop, length}
use Rattle.parser_input.proofs.literals.but_last.Given as goal

abbrev pub invariant-inside : goal.invariant-inside
invariant-inside l = (k : ℕ) × (l.end ≡ drop k l.text) × (l.ahead ≡ drop 1 l.end) × ((k ≡ 0) ⊎ (k < length l.text))

abbrev pub decreases-inside : goal.decreases-inside
decreases-inside l = length l.ahead
