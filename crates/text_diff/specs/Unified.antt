-- Hunks as the text of a unified diff.
use Rattle.std.specs.Prelude.{ℕ, ◌+◌, ◌==◌, Bool, List, [], ◌∷◌, ◌++◌, codes, if◌then◌else◌}
use Rattle.std.specs.List.{flat_map, list_any}
use Rattle.std.specs.Fmt.{decimal}
use Rattle.text_diff.specs.Lines.{Line, line_feed}
use Rattle.text_diff.specs.Hunks.{Row, context, removed, added, Hunk}
use Rattle.text_diff.specs.Names.{names_text}
use Rattle.text_diff.specs.Patch.{old_count, new_count}

-- Returns true if the line has a line feed, which is its last byte.
abbrev pub is_ended : Line → Bool
is_ended l = list_any (λ b. b == line_feed) l

-- A row: a mark, the line, and a note if it has no line feed.
abbrev pub marked : ℕ → Line → List ℕ
marked mark l = mark ∷ (if is_ended l then l else l ++ codes "\n\\ No newline at end of file\n")

abbrev pub row_text : Row → List ℕ
row_text (context l) = marked 32 l
row_text (removed l) = marked 45 l
row_text (added l) = marked 43 l

-- Lines by the number of the first and how many there are. Where there are none, the first is the
-- line before.
abbrev pub range_text : ℕ → ℕ → List ℕ
range_text start count = decimal (if count == 0 then start else start + 1) ++ (44 ∷ decimal count)

abbrev pub header_text : ℕ → ℕ → ℕ → ℕ → List ℕ
header_text old_start old_count new_start new_count =
    codes "@@ -" ++ (range_text old_start old_count ++ (codes " +" ++ (range_text new_start new_count ++ codes " @@\n")))

unfoldable pub hunk_text : Hunk → List ℕ
hunk_text h = header_text h.old_start (old_count h.rows) h.new_start (new_count h.rows) ++ flat_map row_text h.rows

-- No hunks are no text.
abbrev pub unified_text : List ℕ → List Hunk → List ℕ
unified_text path [] = []
unified_text path (h ∷ hs) = names_text path ++ flat_map hunk_text (h ∷ hs)
