use Rattle.std.proofs.Common.{◌≡◌, ◌&&◌, ltb, ℕ, ◌<◌, true, get_or}
use Rattle.rustc_lexer.specs.Characters.{is_id_continue}
use Rattle.rustc_lexer.proofs.bytes.continue_len.Given as goal

abbrev pub invariant-loop-i : goal.invariant-loop-i
invariant-loop-i l = (k : ℕ) → k < l.i → ((ltb (get_or l.bytes k 0) 128 && is_id_continue (get_or l.bytes k 0)) ≡ true)
