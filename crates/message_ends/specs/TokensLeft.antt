-- Tokens of which the first is apart; without it none is left. Only proofs use these.
use Rattle.std.specs.Prelude.{◌≡◌, ◌≤◌, ℕ, List, [], ◌∷◌, map, Option, None, Some}
use Rattle.rust_document.specs.Tokens.{Span, span_of}
use Rattle.rust_document.specs.declared.tokens.LexedToken.{LexedToken}
use Rattle.message_ends.specs.Ends.{token_end}
use Rattle.message_ends.specs.declared.ends.TokensLeft.{TokensLeft}

abbrev pub all_left : Option LexedToken → List LexedToken → List LexedToken
all_left None ts = []
all_left (Some t) ts = t ∷ ts

abbrev pub spans_left : TokensLeft → List Span
spans_left t = map span_of (all_left t.first t.after)

-- From a place on they tell the same ends.
pub record TellsAlike (from : ℕ) (some all : List Span) : Type 0 where
  pub ends : (place : ℕ) → from ≤ place → token_end place some ≡ token_end place all

-- The first begins at this place or behind it, and each other at the start of the one before or behind it.
abbrev pub BeginFrom : ℕ → List Span → Type 0
BeginFrom n [] = Unit {0}
BeginFrom n (t ∷ ts) = (n ≤ t.start) × BeginFrom t.start ts
