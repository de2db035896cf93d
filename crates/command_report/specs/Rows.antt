-- Rows for standard error.
use Rattle.std.specs.Prelude.{ℕ, ◌-◌, ◌==◌, nat_le, nat_lt, List, [], ◌++◌, codes, if◌then◌else◌}
use Rattle.std.specs.Fmt.{decimal}
use Rattle.std.specs.List.{starts_with}

-- the most places that are named
abbrev pub most_rows : ℕ
most_rows = 20

abbrev pub plural : ℕ → List ℕ
plural count = if count == 1 then [] else codes "s"

-- a number and a noun
abbrev pub counted : ℕ → List ℕ → List ℕ
counted count noun = decimal count ++ (codes " " ++ (noun ++ plural count))

-- a place in a file, by line and column, and what is there
abbrev pub place_row : List ℕ → (line column : ℕ) → List ℕ → List ℕ
place_row path line column words =
    path ++ (codes ":" ++ (decimal line ++ (codes ":" ++ (decimal column ++ (codes ": " ++ (words ++ codes "\n"))))))

-- what is shown of a row behind `before` others
abbrev pub row_if_shown : List ℕ → ℕ → List ℕ
row_if_shown row before = if nat_lt before most_rows then row else []

-- the row below those that are shown of `count` rows
abbrev pub rest_row : ℕ → List ℕ
rest_row count =
    if nat_le count most_rows then [] else codes "and " ++ (counted (count - most_rows) (codes "more place") ++ codes "\n")

abbrev pub tally_row : (names files left : ℕ) → List ℕ
tally_row names files left =
    counted names (codes "name") ++ (codes " in " ++ (counted files (codes "file") ++ (codes ", " ++ (counted left (codes "place") ++ codes " left\n"))))

-- what a name is one of
abbrev pub token_words : List ℕ → List ℕ
token_words name =
    if starts_with (λ a b. a == b) name (codes "'") then codes "no lifetime or label `" else codes "no identifier `"

abbrev pub unchanged_row : List ℕ → ℕ → List ℕ
unchanged_row name files = token_words name ++ (name ++ (codes "` in " ++ (counted files (codes "file") ++ codes "\n")))
