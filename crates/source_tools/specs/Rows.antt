-- What is printed of a message: a row with its place and its words, then its line with a caret below.
use Rattle.std.specs.Prelude.{ℕ, ◌+◌, ◌==◌, List, [], ◌∷◌, ◌++◌, codes, if◌then◌else◌}
use Rattle.std.specs.List.{flat_map}
use Rattle.std.specs.Fmt.{decimal}
use Rattle.line_index.specs.declared.encoding.Encoding.TheVariants.{Utf8, Utf32}
use Rattle.line_index.specs.declared.line_col.LineCol.{LineCol}
use Rattle.line_index.specs.Lines.{line_text}
use Rattle.line_index.specs.Columns.{line_col}
use Rattle.shown_lines.specs.Shown.{excerpt}

-- path, line and column, both counted from 1, and words
abbrev pub row : List ℕ → LineCol → List ℕ → List ℕ
row path place words =
    path ++ (codes ":" ++ (decimal (place.line + 1) ++ (codes ":" ++ (decimal (place.col + 1) ++ (codes ": " ++ (words ++ codes "\n"))))))

-- a message about a byte of a text
abbrev pub message_rows : List ℕ → List ℕ → ℕ → List ℕ → List ℕ
message_rows path text offset words =
    let place = line_col Utf32 text offset in
    row path place words ++ excerpt (line_text place.line text) (line_col Utf8 text offset).col

-- a character that is written by another behind a backslash
abbrev pub escaped : ℕ → List ℕ
escaped b =
    if b == 10 then codes "\\n"
    else (if b == 13 then codes "\\r"
    else (if b == 9 then codes "\\t"
    else (if b == 34 then codes "\\\""
    else (if b == 92 then codes "\\\\"
    else b ∷ []))))

abbrev pub quoted : List ℕ → List ℕ
quoted text = codes "\"" ++ (flat_map escaped text ++ codes "\"")

-- what an element's row begins with: a name, and the bytes from `start` to just before `end`
abbrev pub range_text : List ℕ → ℕ → ℕ → List ℕ
range_text name start end = name ++ (codes "@" ++ (decimal start ++ (codes ".." ++ decimal end)))

-- the row of a token, with its text
abbrev pub token_row : List ℕ → ℕ → ℕ → List ℕ → List ℕ
token_row name start end text = range_text name start end ++ (codes " " ++ (quoted text ++ codes "\n"))
