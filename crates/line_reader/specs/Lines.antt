-- Lines of an input. An input is a list of bytes.
use Rattle.std.specs.Prelude.{ℕ, ◌==◌, ◌≢◌, true, false, List, [], ◌∷◌, All}
use Rattle.std.specs.List.{flat_map}

abbrev pub line_feed : ℕ
line_feed = 10

-- no line feed is among these bytes
abbrev pub IsPlain : List ℕ → Type 0
IsPlain bytes = All (λ byte. byte ≢ line_feed) bytes

-- a byte in front of the first line
abbrev pub onto_first : ℕ → List (List ℕ) → List (List ℕ)
onto_first b [] = (b ∷ []) ∷ []
onto_first b (line ∷ rest) = (b ∷ line) ∷ rest

-- Each line ends at a line feed, which is in no line. The last line may lack its line feed.
unfoldable pub lines : List ℕ → List (List ℕ)
lines [] = []
lines (b ∷ bs) = elim (b == line_feed) [ true ↦ [] ∷ lines bs | false ↦ onto_first b (lines bs) ]

-- a byte in front of the first line, if there is one
abbrev pub onto_whole : ℕ → List (List ℕ) → List (List ℕ)
onto_whole b [] = []
onto_whole b (line ∷ rest) = (b ∷ line) ∷ rest

-- the lines that have their line feed
unfoldable pub whole_lines : List ℕ → List (List ℕ)
whole_lines [] = []
whole_lines (b ∷ bs) = elim (b == line_feed) [ true ↦ [] ∷ whole_lines bs | false ↦ onto_whole b (whole_lines bs) ]

-- a byte in front of these, if no line is whole behind it
abbrev pub onto_open : ℕ → List (List ℕ) → List ℕ → List ℕ
onto_open b [] bytes = b ∷ bytes
onto_open b (line ∷ rest) bytes = bytes

-- the bytes behind the last line feed
unfoldable pub open_part : List ℕ → List ℕ
open_part [] = []
open_part (b ∷ bs) = elim (b == line_feed) [ true ↦ open_part bs | false ↦ onto_open b (whole_lines bs) (open_part bs) ]

-- the answers to lines, in order
abbrev pub answers : (List ℕ → List ℕ) → List (List ℕ) → List ℕ
answers answer_to requests = flat_map answer_to requests
