-- Parts of texts, and characters in them, by bytes of UTF-8.
use Rattle.std.specs.Prelude.{◌≡◌, ℕ, ◌<◌, ◌≤◌, ◌==◌, List, ◌++◌, length, slice_index, Option, MatchOption}
use Rattle.std.specs.Char.{encode_utf8}
use Rattle.std.specs.Str.{NoCharPasses}

-- a text may be cut before this byte: it is the first, or the end, or a character begins there
abbrev pub IsCut : List ℕ → ℕ → Type 0
IsCut bs n = (n ≤ length bs) × (0 < n → n < length bs → 128 ≤ slice_index bs n → 192 ≤ slice_index bs n)

-- from one cut to another
pub record IsPart (bs : List ℕ) (from to : ℕ) : Type 0 where
  pub ordered : from ≤ to
  pub begins : IsCut bs from
  pub ends : IsCut bs to

-- this character starts at offset `n`
pub record StandsAt (c : ℕ) (text : List ℕ) (n : ℕ) : Type 0 where
  pub before : List ℕ
  pub after : List ℕ
  pub splits : text ≡ before ++ (encode_utf8 c ++ after)
  pub place : length before ≡ n

-- no character of the text is this one
abbrev pub Lacks : ℕ → List ℕ → Type 0
Lacks c text = NoCharPasses (λ d. d == c) text

-- this character starts at offset `n`, and does not occur before it
pub record FirstAt (c : ℕ) (text : List ℕ) (n : ℕ) : Type 0 where
  pub stands : StandsAt c text n
  pub first : Lacks c stands.before

-- a character starts at offset `n`
abbrev pub Begins : List ℕ → ℕ → Type 0
Begins text n = (n < length text) × IsCut text n

-- the character that starts at offset `n`, if any
abbrev pub IsCharAt : List ℕ → ℕ → Option ℕ → Type 0
IsCharAt text n r = MatchOption r (Begins text n → ⊥) (λ c. StandsAt c text n)
