-- What is printed as JSON: for each file an object on a line of its own.
use Rattle.std.specs.Prelude.{ℕ, ◌+◌, List, ◌++◌, codes, drop}
use Rattle.std.specs.Fmt.{decimal}
use Rattle.serde_json.specs.Data.{string}
use Rattle.serde_json.specs.Written.{compact_text}
use Rattle.line_index.specs.declared.encoding.Encoding.TheVariants.{Utf32}
use Rattle.line_index.specs.declared.line_col.LineCol.{LineCol}
use Rattle.line_index.specs.Columns.{line_col}
use Rattle.text_diff.specs.declared.byte_change.ByteChange.{ByteChange}

abbrev pub json_string : List ℕ → List ℕ
json_string text = compact_text (string text)

-- Items of a list, each behind a comma. Lines and columns are counted from 1, all others from 0.
abbrev pub message_place : LineCol → ℕ → List ℕ
message_place place offset =
    codes ",{\"line\":" ++ (decimal (place.line + 1) ++ (codes ",\"column\":" ++ (decimal (place.col + 1) ++ (codes ",\"offset\":" ++ decimal offset))))

abbrev pub message_item : LineCol → (offset end : ℕ) → List ℕ → List ℕ
message_item place offset end words =
    message_place place offset ++ (codes ",\"end\":" ++ (decimal end ++ (codes ",\"message\":" ++ (json_string words ++ codes "}"))))

abbrev pub token_item : List ℕ → ℕ → ℕ → List ℕ
token_item name start end =
    codes ",{\"kind\":\"" ++ (name ++ (codes "\",\"start\":" ++ (decimal start ++ (codes ",\"end\":" ++ (decimal end ++ codes "}")))))

abbrev pub element_item : ℕ → List ℕ → ℕ → ℕ → List ℕ
element_item depth name start end =
    codes ",{\"depth\":" ++ (decimal depth ++ (codes ",\"kind\":\"" ++ (name ++ (codes "\",\"start\":" ++ (decimal start ++ (codes ",\"end\":" ++ (decimal end ++ codes "}")))))))

abbrev pub change_item : ByteChange → List ℕ
change_item c =
    codes ",{\"start\":" ++ (decimal c.old_start ++ (codes ",\"end\":" ++ (decimal c.old_end ++ (codes ",\"new_start\":" ++ (decimal c.new_start ++ (codes ",\"new_end\":" ++ (decimal c.new_end ++ codes "}")))))))

-- An object with the path and a list. The first item stands without its comma.
abbrev pub file_object : List ℕ → List ℕ → List ℕ → List ℕ
file_object path name items =
    codes "{\"path\":" ++ (json_string path ++ (codes ",\"" ++ (name ++ (codes "\":[" ++ (drop 1 items ++ codes "]}\n")))))
