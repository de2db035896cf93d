-- Lines of a text as a terminal shows them, with a caret below a place.
use Rattle.std.specs.Prelude.{ℕ, ◌+◌, ◌-◌, ◌==◌, ◌&&◌, ◌||◌, nat_le, nat_lt, Bool, false, List, [], ◌∷◌, ◌++◌, chars, codes, encode_utf8, length, take, Option, Some, None, if◌then◌else◌}
use Rattle.std.specs.List.{ends_with, flat_map}
use Rattle.std.specs.Char.{len_utf8}
use Rattle.unicode_width.specs.Width.{char_width}

abbrev pub is_between : (low high c : ℕ) → Bool
is_between low high c = nat_le low c && nat_le c high

-- A control character past ASCII, or one that turns the direction of a text.
abbrev pub is_unseen : ℕ → Bool
is_unseen c = is_between 128 159 c || (is_between 8234 8238 c || is_between 8294 8297 c)

-- The character that is shown: pictures begin at U+2400, and that of U+007F is U+2421.
abbrev pub visible : ℕ → ℕ
visible c =
    if c == 9 then c
    else (if nat_lt c 32 then 9216 + c
    else (if c == 127 then 9249
    else (if is_unseen c then 65533
    else c)))

-- as many spaces as a character has columns: at most three, and one where that is not known
abbrev pub spaces : Option ℕ → List ℕ
spaces None = codes " "
spaces (Some n) = take n (codes "   ")

-- what is below a character, in front of the caret
abbrev pub below : ℕ → List ℕ
below c = if c == 9 then 9 ∷ [] else spaces (char_width false (visible c))

abbrev pub visible_line : List ℕ → List ℕ
visible_line cs = flat_map (λ c. encode_utf8 (visible c)) cs

-- what is below the characters that start in the first `col` bytes
unfoldable pub caret_line : ℕ → List ℕ → List ℕ
caret_line col [] = []
caret_line col (c ∷ cs) = if col == 0 then [] else below c ++ caret_line (col - len_utf8 c) cs

-- a longer line is not shown, so that a long line with many messages is not printed again and again
abbrev pub MAX_BYTES : ℕ
MAX_BYTES = 240

-- a line without a carriage return at its end
abbrev pub without_return : List ℕ → List ℕ
without_return line = if ends_with (λ a b. a == b) line (13 ∷ []) then take (length line - 1) line else line

-- the line as it is shown, and a caret below the byte `col`
abbrev pub excerpt : List ℕ → ℕ → List ℕ
excerpt line col =
    let shown = without_return line in
    if nat_le (length shown) MAX_BYTES
    then visible_line (chars shown) ++ (10 ∷ caret_line col (chars shown)) ++ codes "^\n"
    else []
