-- How code finds the boundaries of a list of tokens: by the bytes that stand before and after them.
use Rattle.std.specs.Prelude.{◌≡◌, ◌⊎◌, ℕ, ◌+◌, ◌-◌, ◌<◌, ◌≤◌, List, [], ◌∷◌, ◌++◌, take, drop, length}
use Rattle.std.specs.List.{sum_by}
use Rattle.std.specs.Str.{chars, IsUtf8}
use Rattle.rustc_lexer.specs.Characters.{size}
use Rattle.rustc_lexer.specs.declared.token.Token.{Token}
use Rattle.lexed_text.specs.declared.kept.Kept.{Kept}

-- the bytes of the first k tokens
abbrev pub taken : ℕ → List Token → ℕ
taken k tokens = sum_by (λ t. t.len) (take k tokens)

-- the bytes of the tokens after the first k
abbrev pub left : ℕ → List Token → ℕ
left k tokens = sum_by (λ t. t.len) (drop k tokens)

-- the first k tokens are those that end within `limit` bytes, and end after `end` bytes
pub record EndsWithin (tokens : List Token) (limit k end : ℕ) : Type 0 where
  pub within : k ≤ length tokens
  pub is_end : end ≡ taken k tokens
  pub low : end ≤ limit
  pub high : (i : ℕ) → k < i → i ≤ length tokens → limit < taken i tokens

-- the first boundary from the k-th on that has no more than `most` bytes after it is the j-th, and has `after`
pub record Passes (tokens : List Token) (k most j after : ℕ) : Type 0 where
  pub onward : k ≤ j
  pub within : j ≤ length tokens
  pub is_left : after ≡ left j tokens
  pub low : after ≤ most
  pub high : (i : ℕ) → k ≤ i → i < j → most < left i tokens

-- Of the tokens of the new text from a place on, the first k end at the first boundary with no more than `most` bytes after it
-- that has as many as one of the old tokens, from the front's end on: that of the first j.
pub record Meets (old new : List Token) (front most k j : ℕ) : Type 0 where
  pub within_new : k ≤ length new
  pub within_old : j ≤ length old
  pub onward : front ≤ j
  pub low : left k new ≤ most
  pub same : left k new ≡ left j old
  pub first : (i n : ℕ) → i < k → front ≤ n → n ≤ length old → left i new ≤ most → left i new ≡ left n old → ⊥

-- a text without its last character
pub record LacksLast (text rest : List ℕ) : Type 0 where
  pub is_text : IsUtf8 rest
  pub last : ℕ
  pub whole : chars text ≡ chars rest ++ last ∷ []

-- the bytes of a text without its last two characters
pub record LacksTwo (text : List ℕ) (bytes : ℕ) : Type 0 where
  pub two : 2 ≤ length (chars text)
  pub is_size : bytes ≡ size (take (length (chars text) - 2) (chars text))

-- The first k tokens, which end after `end` bytes, are the front of an edit after these characters: those that end within all
-- but two of them.
abbrev pub FrontFound : List Token → List ℕ → ℕ → ℕ → Type 0
FrontFound tokens before k end =
    ((length before < 2) × (k ≡ 0) × (end ≡ 0))
    ⊎ ((2 ≤ length before) × EndsWithin tokens (size (take (length before - 2) before)) k end)

-- the front of the old tokens, those of the new text after it, `fresh`, up to where they meet, and the old ones from there on
pub record Renewed (old fresh : List Token) (front most : ℕ) (new : List Token) (kept : Kept) : Type 0 where
  pub front_is : kept.front ≡ front
  pub stop : ℕ
  pub back : stop + kept.back ≡ length old
  pub meets : Meets old fresh front most kept.lexed stop
  pub tokens : new ≡ take front old ++ (take kept.lexed fresh ++ drop stop old)
