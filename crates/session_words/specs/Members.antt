-- Members of values that may be missing.
use Rattle.std.specs.Prelude.{ℕ, ℤ, Bool, true, false, ◌==◌, List, Option, Some, None, option_and_then, option_map, nat_le, if◌then◌else◌, codes}
use Rattle.serde_json.specs.Data.{Data, null, boolean, number, string, array, object, Items}
use Rattle.serde_json.specs.Find.{get, as_str, as_array, as_bool, as_number, as_u64, as_i64}
use Rattle.line_index.specs.declared.line_col.LineCol.{LineCol}

-- the greatest number that the protocol has for lines and columns
abbrev pub MAX_NUMBER : ℕ
MAX_NUMBER = 2147483647

-- the member of a value that may be missing
abbrev pub member_of : List ℕ → Option Data → Option Data
member_of name d = option_and_then (get name) d

abbrev pub word_of : List ℕ → Option Data → Option (List ℕ)
word_of name d = option_and_then as_str (member_of name d)

abbrev pub if_small : ℕ → Option ℕ
if_small n = if nat_le n MAX_NUMBER then Some n else None

-- a whole number that the protocol has
abbrev pub number_of : Option Data → Option ℕ
number_of d = option_and_then if_small (option_and_then as_u64 (option_and_then as_number d))

-- a place by line and column
abbrev pub place_of : Option Data → Option LineCol
place_of d =
    option_and_then
    (λ line. option_map (λ col. record { line = line; col = col }) (number_of (member_of (codes "character") d)))
    (number_of (member_of (codes "line") d))

abbrev pub integer_of : Option Data → Option ℤ
integer_of d = option_and_then as_i64 (option_and_then as_number d)

-- the document that parameters are about
abbrev pub document_of : Option Data → Option Data
document_of params = member_of (codes "textDocument") params

abbrev pub uri_of : Option Data → Option (List ℕ)
uri_of params = word_of (codes "uri") (document_of params)

abbrev pub version_of : Option Data → Option ℤ
version_of params = integer_of (member_of (codes "version") (document_of params))
