-- Places that an editor tells, by line and column.
use Rattle.std.specs.Prelude.{ℕ, ◌-◌, ◌==◌, ◌&&◌, nat_le, nat_lt, List, Option, Some, None, length, slice_index, if◌then◌else◌}
use Rattle.line_index.specs.declared.encoding.Encoding.{Encoding}
use Rattle.line_index.specs.declared.line_col.LineCol.{LineCol}
use Rattle.line_index.specs.Lines.{feeds, line_end, line_text}
use Rattle.line_index.specs.Columns.{units, line_col, offset}

-- where a line ends for an editor, given where it ends: in front of the carriage return of `\r\n`, else there
abbrev pub before_return : ℕ → List ℕ → ℕ
before_return end text =
    if nat_lt 0 end && (nat_lt end (length text) && (slice_index text (end - 1) == 13))
    then end - 1
    else end

-- an offset, if its column is that of a place
abbrev pub at_column : Encoding → List ℕ → LineCol → ℕ → Option ℕ
at_column e text p at = if (line_col e text at).col == p.col then Some at else None

-- The offset of a place. A line past the last one leads to the end of the text, and a column past the end of its line
-- to that end. There is none inside a character: what is in front of it has another column.
abbrev pub offset_in : Encoding → List ℕ → LineCol → Option ℕ
offset_in e text p =
    if nat_le p.line (feeds text)
    then (if nat_lt (units e (line_text p.line text)) p.col
    then Some (before_return (line_end p.line text) text)
    else at_column e text p (offset e text p))
    else Some (length text)
