-- The tokens of a text, each with its place.
use Rattle.std.specs.Prelude.{ℕ, ◌+◌, List, [], ◌∷◌, map, length}
use Rattle.rowan_green.specs.Leaf as green
use Rattle.parser_input.specs.Kind.{raw_of}
use Rattle.parser_input.specs.declared.edition.Edition.{Edition}
use Rattle.rust_document.specs.Seen.{in_bytes}
use Rattle.rust_document.specs.Reading.{leaves_in}
use Rattle.rust_document.specs.declared.tokens.LexedToken.{LexedToken}

-- a kind, and the bytes from `start` to just before `end`
pub record Span : Type 0 where
  pub kind : ℕ
  pub start : ℕ
  pub end : ℕ

-- leaves that stand side by side from a byte on
abbrev pub spans_from : ℕ → List green.Leaf → List Span
spans_from start [] = []
spans_from start (l ∷ ls) =
    record { kind = l.kind; start = start; end = start + length l.text } ∷ spans_from (start + length l.text) ls

abbrev pub tokens_of : Edition → List ℕ → List Span
tokens_of edition text = spans_from 0 (map in_bytes (leaves_in edition text))

-- a token as code has it
abbrev pub span_of : LexedToken → Span
span_of t = record { kind = raw_of t.kind; start = t.range.start.0; end = t.range.end.0 }
