-- Identifiers of a text, and texts in which they are renamed.
use Rattle.std.specs.Prelude.{ℕ, ◌==◌, ◌&&◌, Bool, List, chars, slice_range}
use Rattle.std.specs.List.{list_any}
use Rattle.std.specs.Str.{bytes_eq}
use Rattle.parser_input.specs.Kinds.{IDENT}
pub use Rattle.renamer.specs.Plain.{IsPlain, LacksRoom}
pub use Rattle.renamer.specs.Renamed.{renamed_text}
pub use Rattle.renamer.specs.Verdict.{IsRenamed, RefusesRename}
pub use Rattle.rust_document.specs.Step.{MAX_TEXT, State, present}
use Rattle.rust_document.specs.Tokens.{Span, tokens_of}

-- a token that is the identifier `name`
abbrev pub is_identifier : List ℕ → List ℕ → Span → Bool
is_identifier name text t = (t.kind == IDENT) && bytes_eq (slice_range text t.start t.end) name

-- true if the text of a document has the identifier `name`
abbrev pub has_identifier : List ℕ → State → Bool
has_identifier name d = list_any (is_identifier name d.text) (tokens_of d.edition (chars d.text))
