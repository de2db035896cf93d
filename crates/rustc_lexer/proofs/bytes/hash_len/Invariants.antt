use Rattle.std.proofs.Common.{◌≡◌, ◌==◌, ℕ, ◌<◌, true, get_or}
use Rattle.rustc_lexer.specs.Characters.{hash}
use Rattle.rustc_lexer.proofs.bytes.hash_len.Given as goal

abbrev pub invariant-loop-i : goal.invariant-loop-i
invariant-loop-i l = (k : ℕ) → k < l.i → ((get_or l.bytes k 0 == hash) ≡ true)
