-- Columns: units from the start of the line.
use Rattle.std.specs.Prelude.{ℕ, zero, suc, ◌+◌, ◌-◌, ◌==◌, nat_le, nat_lt, Bool, true, false, ◌&&◌, ◌||◌, List, [], ◌∷◌, length, take, drop, slice_index, slice_range, if◌then◌else◌}
use Rattle.line_index.specs.declared.encoding.Encoding.{Encoding}
use Rattle.line_index.specs.declared.encoding.Encoding.TheVariants.{Utf8, Utf16, Utf32}
use Rattle.line_index.specs.declared.line_col.LineCol.{LineCol}
use Rattle.line_index.specs.Lines.{feeds, line_start, line_end, line_text}

-- the units of the character that the byte begins, or, in UTF-8, of the byte
abbrev pub width : Encoding → ℕ → ℕ
width Utf8 b = 1
width Utf16 b = if nat_lt b 128 then 1 else (if nat_lt b 192 then 0 else (if nat_lt b 240 then 1 else 2))
width Utf32 b = if nat_lt b 128 then 1 else (if nat_lt b 192 then 0 else 1)

-- the units of the bytes
unfoldable pub units : Encoding → List ℕ → ℕ
units e [] = 0
units e (b ∷ bs) = width e b + units e bs

-- the length in bytes of the longest front of at most `col` units
unfoldable pub reach : Encoding → ℕ → List ℕ → ℕ
reach e col [] = 0
reach e col (b ∷ bs) =
    elim (nat_le (width e b) col) [ true ↦ suc (reach e (col - width e b) bs) | false ↦ 0 ]

-- Returns true if a character starts at the offset, or the text ends there.
abbrev pub is_boundary : List ℕ → ℕ → Bool
is_boundary text n =
    nat_le n (length text) && (nat_lt (slice_index text n) 128 || nat_le 192 (slice_index text n))

-- the last boundary at or before the offset
unfoldable pub floor : List ℕ → ℕ → ℕ
floor text zero = 0
floor text (suc n) = elim (is_boundary text (suc n)) [ true ↦ suc n | false ↦ floor text n ]

-- The line and column of an offset. Past the end it counts as the end, inside a character as its start.
abbrev pub line_col : Encoding → List ℕ → ℕ → LineCol
line_col e text offset =
    let at = floor text offset in
    let line = feeds (take at text) in
    record { line = line; col = units e (slice_range text (line_start line text) at) }

-- The offset of a line and column. A line past the last one leads to the end of the text, a column
-- past the end of its line to that end, and one inside a character to its start.
abbrev pub offset : Encoding → List ℕ → LineCol → ℕ
offset e text p =
    if nat_le p.line (feeds text)
    then floor text (line_start p.line text + reach e p.col (line_text p.line text))
    else length text
