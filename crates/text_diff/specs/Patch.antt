-- What hunks make of old lines. They are read strictly: each line that is shown or removed must be
-- the old text's, and each hunk must be where it says.
use Rattle.std.specs.Prelude.{ℕ, zero, suc, ◌+◌, ◌-◌, ◌==◌, ◌&&◌, nat_le, Bool, true, false, List, [], ◌∷◌, ◌++◌, Option, None, Some, length, take, drop, if◌then◌else◌}
use Rattle.std.specs.Option.{option_map}
use Rattle.std.specs.Str.{bytes_eq}
use Rattle.text_diff.specs.Lines.{Line, lines, joined}
use Rattle.text_diff.specs.Hunks.{Row, context, removed, added, Hunk}

-- the lines in front of others, if there are these
abbrev pub before : List Line → Option (List Line) → Option (List Line)
before ls r = option_map (λ more. ls ++ more) r

-- The rows are read against the old lines, and what they leave is read as `rest` says.
unfoldable pub patched_rows : List Row → List Line → (List Line → Option (List Line)) → Option (List Line)
patched_rows [] old rest = rest old
patched_rows (added l ∷ rs) old rest = before (l ∷ []) (patched_rows rs old rest)
patched_rows (context l ∷ rs) [] rest = None
patched_rows (context l ∷ rs) (x ∷ xs) rest =
    if bytes_eq l x then before (x ∷ []) (patched_rows rs xs rest) else None
patched_rows (removed l ∷ rs) [] rest = None
patched_rows (removed l ∷ rs) (x ∷ xs) rest = if bytes_eq l x then patched_rows rs xs rest else None

-- how many lines of the old text, and of the new one, the rows are
unfoldable pub old_count : List Row → ℕ
old_count [] = 0
old_count (context l ∷ rs) = suc (old_count rs)
old_count (removed l ∷ rs) = suc (old_count rs)
old_count (added l ∷ rs) = old_count rs

unfoldable pub new_count : List Row → ℕ
new_count [] = 0
new_count (context l ∷ rs) = suc (new_count rs)
new_count (removed l ∷ rs) = new_count rs
new_count (added l ∷ rs) = suc (new_count rs)

-- Whether the hunk is where it says, after `at` old lines and `out` new ones.
abbrev pub is_placed : ℕ → ℕ → List Line → Hunk → Bool
is_placed at out old h =
    nat_le at h.old_start && (nat_le (h.old_start - at) (length old)
    && (h.new_start == out + (h.old_start - at)))

-- The new lines after `at` old lines and `out` new ones. `old` are the old lines from there.
unfoldable pub patched_from : ℕ → ℕ → List Hunk → List Line → Option (List Line)
patched_from at out [] old = Some old
patched_from at out (h ∷ hs) old =
    if is_placed at out old h
    then before (take (h.old_start - at) old)
    (patched_rows h.rows (drop (h.old_start - at) old)
    (λ rest. patched_from (h.old_start + old_count h.rows) (h.new_start + new_count h.rows) hs rest))
    else None

abbrev pub patched : List Hunk → List Line → Option (List Line)
patched hs old = patched_from 0 0 hs old
