-- Lone surrogates in JSON. A character past U+FFFF is escaped as two surrogates, `\ud83d\ude00`. One without the other is no
-- character; `\ufffd` stands for it, which has as many bytes in JSON and as many units in UTF-16.
use Rattle.std.specs.Prelude.{ℕ, Bool, false, ◌&&◌, ◌||◌, ◌==◌, nat_le, List, [], ◌∷◌, ◌++◌, Option, Some, None, codes, drop, slice_index_or, take, if◌then◌else◌}
use Rattle.std.specs.Char.{is_ascii_hexdigit}

abbrev pub backslash : ℕ
backslash = 92

-- `D` or `d`, and a hex digit of a surrogate that comes first: `8` to `b`
abbrev pub is_high_digit : ℕ → Bool
is_high_digit b = (nat_le 56 b && nat_le b 57) || (nat_le 65 b && nat_le b 66) || (nat_le 97 b && nat_le b 98)

-- a hex digit of a surrogate that comes second: `c` to `f`
abbrev pub is_low_digit : ℕ → Bool
is_low_digit b = (nat_le 67 b && nat_le b 70) || (nat_le 99 b && nat_le b 102)

-- The second digit of the surrogate whose escape is behind a backslash.
abbrev pub surrogate_digit : List ℕ → Option ℕ
surrogate_digit (u ∷ d ∷ second ∷ third ∷ fourth ∷ rest) =
    if u == 117 && (d == 68 || d == 100) && is_ascii_hexdigit third && is_ascii_hexdigit fourth then Some second else None
surrogate_digit _ = None

-- It passes a test.
abbrev pub is_escape : (ℕ → Bool) → List ℕ → Bool
is_escape test bytes = elim (surrogate_digit bytes) [ None ↦ false | Some digit ↦ test digit ]

-- the same behind the escape of a surrogate, with its backslash
abbrev pub is_second : List ℕ → Bool
is_second bytes = (slice_index_or bytes 5 0 == backslash) && is_escape is_low_digit (drop 6 bytes)

-- What stands for the bytes right behind a backslash: of a pair all of it, of a lone surrogate `\ufffd`, else the next byte.
abbrev pub escape : List ℕ → List ℕ
escape bytes =
    if is_escape is_high_digit bytes && is_second bytes then take 11 bytes
    else if is_escape is_high_digit bytes || is_escape is_low_digit bytes then codes "ufffd"
    else take 1 bytes

-- what stands for bytes behind this one
abbrev pub behind : ℕ → List ℕ → List ℕ
behind b bytes = if b == backslash then escape bytes else []

-- The bytes, where the first ones are already replaced by `known`.
unfoldable pub mended_behind : List ℕ → List ℕ → List ℕ
mended_behind known [] = []
mended_behind (k ∷ known) (b ∷ bytes) = k ∷ mended_behind known bytes
mended_behind [] (b ∷ bytes) = b ∷ mended_behind (behind b bytes) bytes

-- a text in JSON without lone surrogates
abbrev pub mended : List ℕ → List ℕ
mended bytes = mended_behind [] bytes
