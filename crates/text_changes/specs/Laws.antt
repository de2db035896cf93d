-- What holds of places in each text.
use Rattle.std.specs.Prelude.{◌≡◌, ℕ, List, Some, IsUtf8, IsCharBoundary}
use Rattle.line_index.specs.declared.encoding.Encoding.{Encoding}
use Rattle.line_index.specs.declared.line_col.LineCol.{LineCol}
use Rattle.line_index.specs.Columns.{line_col}
use Rattle.text_changes.specs.Places.{offset_in}

-- At each character boundary, line and column lead back to the offset.
abbrev pub PlacesAreFound : Type 0
PlacesAreFound =
    (e : Encoding) (text : List ℕ) (n : ℕ) → IsUtf8 text → IsCharBoundary text n →
    offset_in e text (line_col e text n) ≡ Some n

-- A place that has an offset leads to a character boundary.
abbrev pub PlacesAreBoundaries : Type 0
PlacesAreBoundaries =
    (e : Encoding) (text : List ℕ) (p : LineCol) (n : ℕ) → IsUtf8 text →
    offset_in e text p ≡ Some n → IsCharBoundary text n
