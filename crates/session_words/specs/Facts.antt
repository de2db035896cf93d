-- What the client says of itself, and what it asks for.
use Rattle.std.specs.Prelude.{ℕ, List, Option, Some, None, option_and_then, codes, if◌then◌else◌}
use Rattle.std.specs.Str.{bytes_eq}
use Rattle.serde_json.specs.Data.{Data, Items, no_items, item}
use Rattle.serde_json.specs.Find.{as_str, as_array}
use Rattle.line_index.specs.declared.encoding.Encoding.{Encoding}
use Rattle.line_index.specs.declared.encoding.Encoding.TheVariants.{Utf8, Utf16, Utf32}
use Rattle.parser_input.specs.Edition.{edition_named}
use Rattle.parser_input.specs.declared.edition.Edition.{Edition}
use Rattle.session_words.specs.Members.{member_of, word_of}
use Rattle.session_words.specs.declared.facts.Facts.{Facts}

abbrev pub encoding_named : List ℕ → Option Encoding
encoding_named word =
    if bytes_eq word (codes "utf-8") then Some Utf8
    else if bytes_eq word (codes "utf-16") then Some Utf16
    else if bytes_eq word (codes "utf-32") then Some Utf32
    else None

abbrev pub or_first : Option Encoding → Encoding → Encoding
or_first None rest = rest
or_first (Some e) rest = e

-- the first encoding in a list that is known, else UTF-16
abbrev pub first_known : Items → Encoding
first_known no_items = Utf16
first_known (item d ds) = or_first (option_and_then encoding_named (as_str d)) (first_known ds)

abbrev pub encoding_in_any : Option Items → Encoding
encoding_in_any None = Utf16
encoding_in_any (Some ds) = first_known ds

abbrev pub encoding_in : Option Data → Encoding
encoding_in params =
    encoding_in_any (option_and_then as_array
    (member_of (codes "positionEncodings") (member_of (codes "general") (member_of (codes "capabilities") params))))

-- the edition of all texts, if one is asked for
abbrev pub edition_in : Option Data → Option Edition
edition_in params = option_and_then edition_named (word_of (codes "edition") (member_of (codes "initializationOptions") params))

abbrev pub facts_in : Option Data → Facts
facts_in params = record { encoding = encoding_in params; edition = edition_in params }
