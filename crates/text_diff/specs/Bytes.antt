-- Changes of lines as ranges of bytes.
use Rattle.std.specs.Prelude.{ℕ, ◌+◌, List, [], ◌∷◌, length, get_or}
use Rattle.text_diff.specs.declared.byte_change.ByteChange.{ByteChange}
use Rattle.text_diff.specs.declared.change.Change.{Change}
use Rattle.text_diff.specs.Lines.{Line}

-- where each line begins, and where the last one ends, from an offset on
abbrev pub starts_from : ℕ → List Line → List ℕ
starts_from n [] = n ∷ []
starts_from n (l ∷ ls) = n ∷ starts_from (n + length l) ls

-- where a line begins
abbrev pub start_of : List Line → ℕ → ℕ
start_of ls i = get_or (starts_from 0 ls) i 0

-- the bytes of the lines of a change
abbrev pub bytes_of : (old new : List Line) → Change → ByteChange
bytes_of old new c =
    record { old_start = start_of old c.old_start; old_end = start_of old c.old_end; new_start = start_of new c.new_start; new_end = start_of new c.new_end }
