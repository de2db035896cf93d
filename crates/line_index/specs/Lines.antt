-- Lines of a text. A text is a list of bytes.
--
-- A line ends at a line feed, U+000A, and at nothing else. The line feed is in no line. A carriage
-- return is a character of its line, also directly before a line feed.
use Rattle.std.specs.Prelude.{ℕ, zero, suc, ◌+◌, ◌==◌, nat_le, Bool, true, false, List, [], ◌∷◌, Option, None, Some, length, drop, slice_range}

abbrev pub line_feed : ℕ
line_feed = 10

-- the number of line feeds
unfoldable pub feeds : List ℕ → ℕ
feeds [] = 0
feeds (b ∷ bs) = elim (b == line_feed) [ true ↦ suc (feeds bs) | false ↦ feeds bs ]

-- A text has one line more than line feeds.
abbrev pub line_count : List ℕ → ℕ
line_count text = suc (feeds text)

-- where the line starts: after as many line feeds as its number
unfoldable pub line_start : ℕ → List ℕ → ℕ
line_start zero text = 0
line_start (suc line) [] = 0
line_start (suc line) (b ∷ bs) =
    suc (elim (b == line_feed) [ true ↦ line_start line bs | false ↦ line_start (suc line) bs ])

-- the bytes before the first line feed
unfoldable pub line_len : List ℕ → ℕ
line_len [] = 0
line_len (b ∷ bs) = elim (b == line_feed) [ true ↦ 0 | false ↦ suc (line_len bs) ]

-- where the line ends: at its line feed, or at the end of the text
abbrev pub line_end : ℕ → List ℕ → ℕ
line_end line text = line_start line text + line_len (drop (line_start line text) text)

abbrev pub line_text : ℕ → List ℕ → List ℕ
line_text line text = slice_range text (line_start line text) (line_end line text)

-- the starts of the lines after the first, where the bytes begin at `at`
unfoldable pub starts_after : ℕ → List ℕ → List ℕ
starts_after at [] = []
starts_after at (b ∷ bs) =
    elim (b == line_feed) [ true ↦ (at + 1) ∷ starts_after (at + 1) bs | false ↦ starts_after (at + 1) bs ]

-- the starts of all lines
abbrev pub line_starts : List ℕ → List ℕ
line_starts text = 0 ∷ starts_after 0 text
