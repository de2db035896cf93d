-- What a server knows of its client: the texts that are open, as the client's messages give them.
use Rattle.std.specs.Prelude.{ℕ, ℤ, Bool, true, false, List, [], ◌∷◌, map, Option, Some, None, option_map, if◌then◌else◌, string_bytes}
use Rattle.std.specs.Str.{bytes_eq}
use Rattle.session_words.specs.declared.facts.Facts.{Facts}
use Rattle.line_index.specs.declared.encoding.Encoding.TheVariants.{Utf16}
use Rattle.language_session.specs.declared.session.Phase.{Phase}
use Rattle.language_session.specs.declared.session.Phase.TheVariants.{Fresh}
use Rattle.language_session.specs.declared.session.OpenText.{OpenText}
use Rattle.language_session.specs.declared.session.Session as declared

-- an open document: its name, its version if it has one, and its text, None where it is lost
pub record Open : Type 0 where
  pub uri : List ℕ
  pub version : Option ℤ
  pub text : Option (List ℕ)

pub record Session : Type 0 where
  pub phase : Phase
  pub facts : Facts
  pub documents : List Open

abbrev pub found_or : Bool → Open → Option Open → Option Open
found_or true d rest = Some d
found_or false d rest = rest

-- the document with this name
abbrev pub found : List ℕ → List Open → Option Open
found uri [] = None
found uri (d ∷ ds) = found_or (bytes_eq d.uri uri) d (found uri ds)

-- the documents but the one with this name
abbrev pub without : List ℕ → List Open → List Open
without uri [] = []
without uri (d ∷ ds) = if bytes_eq d.uri uri then ds else d ∷ without uri ds

abbrev pub lost : Open → Open
lost d = record { uri = d.uri; version = d.version; text = None }

-- ---- in code

abbrev pub open_of : OpenText → Open
open_of d = record { uri = string_bytes d.uri; version = d.version; text = option_map string_bytes d.text }

abbrev pub session_of : declared.Session → Session
session_of s = record { phase = s.phase; facts = s.facts; documents = map open_of s.documents.items }

-- before the first message
abbrev pub begun : Session
begun = record { phase = Fresh; facts = record { encoding = Utf16; edition = None }; documents = [] }
