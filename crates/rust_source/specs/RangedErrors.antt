-- The range of each message of a text.
use Rattle.std.specs.Prelude.{◌≡◌, ◌≤◌, ℕ, chars, ◌==◌, if◌then◌else◌, List, [], ◌∷◌, map, Option, None, Some}
use Rattle.rust_document.specs.Reading.{Fault, OfGrammar, OfLeaf, Message}
use Rattle.rust_document.specs.Seen.{message_of_error}
use Rattle.rust_document.specs.Tokens.{Span, span_of, tokens_of}
use Rattle.rust_document.specs.declared.tokens.LexedToken.{LexedToken}
use Rattle.rust_source.specs.Held.{Held}
use Rattle.rust_source.specs.declared.ranged_errors.Ends.{Ends}
use Rattle.rust_source.specs.declared.ranged_errors.RangedError.{RangedError}
use Rattle.rust_source.specs.declared.ranged_errors.TokensLeft.{TokensLeft}

-- The end of the token that begins at a place; where none does, the place.
abbrev pub token_end : ℕ → List Span → ℕ
token_end place [] = place
token_end place (t ∷ ts) = if t.start == place then t.end else token_end place ts

-- A message of the lexer ends with the token that it is about, one of the parser where it begins.
abbrev pub fault_end : List Span → ℕ → Fault → ℕ
fault_end tokens place (OfGrammar m) = place
fault_end tokens place (OfLeaf words) = token_end place tokens

abbrev pub message_end : List Span → Message → ℕ
message_end tokens m = fault_end tokens m.0 m.1

-- a message with its end
abbrev pub with_end : List Span → Message → Message × ℕ
with_end tokens m = (m, message_end tokens m)

-- as code has it
abbrev pub ranged : RangedError → Message × ℕ
ranged r = (message_of_error r.error, r.end)

-- ---- tokens of which the first is apart; without it none is left. Only proofs use what follows.

abbrev pub all_left : Option LexedToken → List LexedToken → List LexedToken
all_left None ts = []
all_left (Some t) ts = t ∷ ts

abbrev pub spans_left : TokensLeft → List Span
spans_left t = map span_of (all_left t.first t.after)

-- From a place on they tell the same ends.
pub record TellsAlike (from : ℕ) (some all : List Span) : Type 0 where
  pub ends : (place : ℕ) → from ≤ place → token_end place some ≡ token_end place all

-- The first begins at this place or behind it, and each other at the start of the one before or behind it.
abbrev pub BeginFrom : ℕ → List Span → Type 0
BeginFrom n [] = Unit {0}
BeginFrom n (t ∷ ts) = (n ≤ t.start) × BeginFrom t.start ts

-- ---- the tokens of a source

abbrev pub all_tokens : Held → List Span
all_tokens s = tokens_of s.document.edition (chars s.document.text)

-- those that are left come in order, and tell the ends from a place on
pub record AreEnds (e : Ends) : Type 0 where
  pub alike : TellsAlike e.from (spans_left e.left) (all_tokens e.source.now)
  pub ordered : BeginFrom 0 (spans_left e.left)
