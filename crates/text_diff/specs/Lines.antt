-- Lines of a text, each with its line feed. The last one may have none. A text is a list of bytes.
use Rattle.std.specs.Prelude.{ℕ, ◌==◌, Bool, true, false, List, [], ◌∷◌, ◌++◌}

abbrev pub line_feed : ℕ
line_feed = 10

abbrev pub Line : Type 0
Line = List ℕ

-- the byte in front of the first line
abbrev pub onto_first : ℕ → List Line → List Line
onto_first b [] = (b ∷ []) ∷ []
onto_first b (l ∷ ls) = (b ∷ l) ∷ ls

-- the lines of a text
unfoldable pub lines : List ℕ → List Line
lines [] = []
lines (b ∷ bs) = elim (b == line_feed) [ true ↦ (b ∷ []) ∷ lines bs | false ↦ onto_first b (lines bs) ]

-- the text of lines
abbrev pub joined : List Line → List ℕ
joined [] = []
joined (l ∷ ls) = l ++ joined ls
