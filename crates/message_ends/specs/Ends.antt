-- Where the messages of a text end.
use Rattle.std.specs.Prelude.{ℕ, ◌==◌, chars, if◌then◌else◌, List, [], ◌∷◌}
use Rattle.rust_document.specs.Reading.{Fault, OfGrammar, OfLeaf, Message}
use Rattle.rust_document.specs.Step.{State}
use Rattle.rust_document.specs.Tokens.{Span, tokens_of}

-- The end of the token that begins at a place; where none does, the place.
abbrev pub token_end : ℕ → List Span → ℕ
token_end place [] = place
token_end place (t ∷ ts) = if t.start == place then t.end else token_end place ts

-- A message of the lexer ends with the token that it is about, one of the parser where it begins.
abbrev pub fault_end : List Span → ℕ → Fault → ℕ
fault_end tokens place (OfGrammar m) = place
fault_end tokens place (OfLeaf words) = token_end place tokens

abbrev pub message_end : List Span → Message → ℕ
message_end tokens m = fault_end tokens m.0 m.1

-- the tokens of a document
abbrev pub all_tokens : State → List Span
all_tokens d = tokens_of d.edition (chars d.text)
