-- The value that the body of a message is.
use Rattle.std.specs.Prelude.{ℕ, List, Option, None, if◌then◌else◌}
use Rattle.std.specs.Str.{is_utf8}
use Rattle.serde_json.specs.Data.{Data}
use Rattle.serde_json.specs.Read.{read}
use Rattle.session_words.specs.Escapes.{mended}

-- bytes in UTF-8 that are JSON of at most 127 levels
abbrev pub value_in : List ℕ → Option Data
value_in bytes = if is_utf8 bytes then read bytes else None

abbrev pub body_value : List ℕ → Option Data
body_value body = value_in (mended body)
