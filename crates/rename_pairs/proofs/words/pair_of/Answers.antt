use Rattle.std.proofs.Common.{◌≡◌, ◌<◌, ℕ, arith, length, true, false}
use Rattle.std.specs.Prelude.{nat_lt}
use Rattle.std.specs.List.{position_or_len}
use Rattle.std.proofs.lemmas.Bool.Decides.{nat_tests}
use Rattle.rename_pairs.specs.Words.{is_sign}
use Rattle.rename_pairs.proofs.words.pair_of.Goals as goal

is-less : (a b : ℕ) → a < b → nat_lt a b ≡ true
is-less a b h = grind (arith, nat_tests)

is-not-less : (a b : ℕ) → a ≡ b → nat_lt a b ≡ false
is-not-less a b h = grind (arith, nat_tests)

pub returns-in-Some : goal.returns-in-Some
returns-in-Some c =
    let h = c.in-Some.ensures.byte (omega arith) (λ w o f. f) in
    let word = c.args.word.now in
    record { sign = is-less (position_or_len is_sign word) (length word) h.2; old_name = h.0; new_name = h.1 }

pub returns-in-None : goal.returns-in-None
returns-in-None c =
    let h = c.in-None.ensures.byte (omega arith) (λ w o f. f) in
    let word = c.args.word.now in
    is-not-less (position_or_len is_sign word) (length word) h
