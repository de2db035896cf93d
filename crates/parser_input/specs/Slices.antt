-- Pieces as slices of the bytes of a text.
use Rattle.std.specs.Prelude.{◌≡◌, ℕ, List, chars, slice_range}
use Rattle.std.specs.Option.{IfSome}
use Rattle.std.specs.Str.{IsCharBoundary}
use Rattle.parser_input.specs.Lexed.{Lexed}
use Rattle.parser_input.specs.Preface.{Piece, Source}
use Rattle.parser_input.specs.Spans.{end_of}
use Rattle.parser_input.specs.Stored.{leaf_at, offset}

-- a piece is the slice of the text at its span, which begins and ends between characters
pub record IsSlice (text : List ℕ) (piece : Piece) : Type 0 where
  pub begins : IsCharBoundary text piece.start
  pub ends : IsCharBoundary text (end_of piece)
  pub own : chars (slice_range text piece.start (end_of piece)) ≡ piece.text

-- each piece of a preface is one, and so is what is left for the grammar
pub record AreSlices (text : List ℕ) (source : Source) : Type 0 where
  pub shebang : IfSome source.shebang (IsSlice text)
  pub opening_is : IfSome source.opening (IsSlice text)
  pub info : IfSome source.info (IsSlice text)
  pub frontmatter : IfSome source.frontmatter (IsSlice text)
  pub closing_is : IfSome source.closing (IsSlice text)
  pub content : IsSlice text source.content

-- a leaf, and the bytes before it
abbrev pub leaf_piece : List Lexed → ℕ → Piece
leaf_piece leaves i = record { start = offset leaves i; text = (leaf_at leaves i).leaf.text }
