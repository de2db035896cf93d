-- Where strings and comments end, in words of their own.
use Rattle.std.specs.Prelude.{◌≡◌, ℕ, zero, suc, ◌<◌, Bool, true, not, ◌&&◌, ◌||◌, ◌==◌, List, ◌∷◌, length, drop, get_or, if◌then◌else◌}
use Rattle.rustc_lexer.specs.Characters.{double_quote, hash, tick, backslash, star, slash}
use Rattle.rustc_lexer.specs.Scan.{peek, hashes_follow, mark, Neither, stops_character}
use Rattle.rustc_lexer.specs.declared.token.TokenKind.{TokenKind}
use Rattle.rustc_lexer.specs.declared.token.TokenKind.TheVariants.{UnknownPrefixLifetime, Lifetime}

-- the number of `\` directly before a place
abbrev pub backslashes_before : ℕ → List ℕ → ℕ
backslashes_before zero text = 0
backslashes_before (suc n) text = if get_or text n 0 == backslash then suc (backslashes_before n text) else 0

abbrev pub is_even : ℕ → Bool
is_even zero = true
is_even (suc n) = not (is_even n)

-- at place k of a string's inside stands a quote with an even run of `\` before it
pub record ClosesAt (text : List ℕ) (k : ℕ) : Type 0 where
  pub inside : k < length text
  pub quote : get_or text k 0 ≡ double_quote
  pub even : is_even (backslashes_before k text) ≡ true

-- at index `k` inside a raw string is a quote with `hashes` hashes after it
pub record ClosesRawAt (hashes : ℕ) (text : List ℕ) (k : ℕ) : Type 0 where
  pub inside : k < length text
  pub quote : get_or text k 0 ≡ double_quote
  pub follow : hashes_follow hashes (drop (suc k) text) ≡ true

-- the inside of a block comment from `text` on, with the `*/` that closes it, leaves `rest`: it is made of whole comments and of
-- characters that begin no `/*` and no `*/`
pub data Nested : List ℕ → List ℕ → Type 0 where
  closes : {cs : List ℕ} → Nested (star ∷ slash ∷ cs) cs
  inner : {cs mid rest : List ℕ} → Nested cs mid → Nested mid rest → Nested (slash ∷ star ∷ cs) rest
  other : {c : ℕ} {cs rest : List ℕ} → mark c (peek 0 cs) ≡ Neither → Nested cs rest → Nested (c ∷ cs) rest

-- at place k after the first `'` of a character stands what ends it, with an even run of `\` before it: a `'`, a `/`, or a
-- line feed that no `'` follows
pub record EndsCharacterAt (text : List ℕ) (k : ℕ) : Type 0 where
  pub inside : k < length text
  pub mark : (get_or text k 0 == tick || stops_character (get_or text k 0) (get_or text (suc k) 0)) ≡ true
  pub even : is_even (backslashes_before k text) ≡ true

-- k is the first such place
pub record FirstEnd (text : List ℕ) (k : ℕ) : Type 0 where
  pub here : EndsCharacterAt text k
  pub none_before : (j : ℕ) → j < k → EndsCharacterAt text j → ⊥

-- the kind of a lifetime that `next` follows
abbrev pub lifetime_kind : Bool → ℕ → TokenKind
lifetime_kind starts_with_number next =
    if next == hash && not starts_with_number then UnknownPrefixLifetime else Lifetime starts_with_number
