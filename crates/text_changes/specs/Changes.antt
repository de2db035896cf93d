-- Changes of a text between two places.
use Rattle.std.specs.Prelude.{ℕ, ◌&&◌, nat_le, List, Option, Some, None, length, if◌then◌else◌}
use Rattle.std.specs.List.{replace_range}
use Rattle.line_index.specs.declared.encoding.Encoding.{Encoding}
use Rattle.text_changes.specs.declared.change.Change.{Change}
use Rattle.text_changes.specs.Places.{offset_in}

-- The text after the bytes between two offsets are replaced: None if these are not in order, or if the text
-- gets longer than `limit`.
abbrev pub between : ℕ → List ℕ → List ℕ → Option ℕ → Option ℕ → Option (List ℕ)
between limit text new None end = None
between limit text new (Some start) None = None
between limit text new (Some start) (Some end) =
    if nat_le start end && nat_le (length (replace_range text start end new)) limit
    then Some (replace_range text start end new)
    else None

-- the text after a change
abbrev pub changed : Encoding → ℕ → List ℕ → Change → Option (List ℕ)
changed e limit text c = between limit text c.text.now (offset_in e text c.start) (offset_in e text c.end)
