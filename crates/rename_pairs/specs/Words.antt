-- Words that are pairs of names. A text is a list of bytes; 61 is `=`.
use Rattle.std.specs.Prelude.{◌≡◌, ℕ, ◌==◌, Bool, true, nat_lt, List, length}
use Rattle.std.specs.List.{after_first, before_first, position_or_len, prefix_len}

abbrev pub is_sign : ℕ → Bool
is_sign b = b == 61

abbrev pub has_sign : List ℕ → Bool
has_sign word = nat_lt (position_or_len is_sign word) (length word)

-- A word has an `=`, and is an old name before the first one, and the new name behind it.
pub record IsPair (word old new : List ℕ) : Type 0 where
  pub sign : has_sign word ≡ true
  pub old_name : old ≡ before_first is_sign word
  pub new_name : new ≡ after_first is_sign word

-- how many words, from the first on, have an `=`
abbrev pub leading_pairs : List (List ℕ) → ℕ
leading_pairs words = prefix_len has_sign words
