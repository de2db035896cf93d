-- What holds of places of each text.
use Rattle.std.specs.Prelude.{◌≡◌, ◌≤◌, ◌<◌, ℕ, List, length, IsUtf8, IsCharBoundary, encode_utf8, encode_utf8_all}
use Rattle.std.specs.List.{sum_by}
use Rattle.std.specs.Char.Escape.{encode_utf16}
use Rattle.line_index.specs.declared.encoding.Encoding.{Encoding}
use Rattle.line_index.specs.declared.encoding.Encoding.TheVariants.{Utf8, Utf16, Utf32}
use Rattle.line_index.specs.declared.line_col.LineCol.{LineCol}
use Rattle.line_index.specs.Lines.{feeds, line_end, line_text}
use Rattle.line_index.specs.Columns.{units, line_col, offset}

-- At each character boundary, line and column lead back to the offset.
abbrev pub PlacesLeadBack : Type 0
PlacesLeadBack =
    (e : Encoding) (text : List ℕ) (n : ℕ) → IsUtf8 text → IsCharBoundary text n →
    offset e text (line_col e text n) ≡ n

-- A column past the end of its line leads to that end.
abbrev pub LongColumnsEndLines : Type 0
LongColumnsEndLines =
    (e : Encoding) (text : List ℕ) (p : LineCol) → IsUtf8 text → p.line ≤ feeds text →
    units e (line_text p.line text) ≤ p.col → offset e text p ≡ line_end p.line text

-- the units of a character
abbrev pub char_units : Encoding → ℕ → ℕ
char_units Utf8 c = length (encode_utf8 c)
char_units Utf16 c = length (encode_utf16 c)
char_units Utf32 c = 1

-- The units of a text are those of its characters.
abbrev pub UnitsAreOfCharacters : Type 0
UnitsAreOfCharacters =
    (e : Encoding) (cs : List ℕ) → units e (encode_utf8_all cs) ≡ sum_by (λ c. char_units e c) cs
