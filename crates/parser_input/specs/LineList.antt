-- A text as a list of lines.
use Rattle.std.specs.Prelude.{ℕ, true, false, ◌==◌, List, [], ◌∷◌}
use Rattle.std.specs.List.{flat_map}
use Rattle.rustc_lexer.specs.Characters.{line_feed}

-- one more character in front of the first line
abbrev pub in_front : ℕ → List (List ℕ) → List (List ℕ)
in_front c [] = (c ∷ []) ∷ []
in_front c (line ∷ lines) = (c ∷ line) ∷ lines

-- the lines of a text, each with the line feed that ends it; the last one may have none
unfoldable pub lines : List ℕ → List (List ℕ)
lines [] = []
lines (c ∷ cs) = elim (c == line_feed) [ true ↦ (c ∷ []) ∷ lines cs | false ↦ in_front c (lines cs) ]

-- the characters of lines, joined
abbrev pub joined : List (List ℕ) → List ℕ
joined lines = flat_map (λ line. line) lines
