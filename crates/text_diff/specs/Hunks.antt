-- Hunks of a script: changes with lines around them.
use Rattle.std.specs.Prelude.{ℕ, suc, ◌+◌, ◌-◌, ◌*◌, ◌≤◌, nat_le, min, Bool, true, false, List, [], ◌∷◌, ◌++◌, length, map, slice_range, if◌then◌else◌}
use Rattle.text_diff.specs.declared.change.Change.{Change}
use Rattle.text_diff.specs.Lines.{Line}
use Rattle.text_diff.specs.Script.{IsRun}

-- A row of a hunk: a line of both texts, of the old one, or of the new one.
pub data Row : Type 0 where
  context : Line → Row
  removed : Line → Row
  added : Line → Row

-- The numbers of lines before it in the old text and in the new one, and its rows.
pub record Hunk : Type 0 where
  pub old_start : ℕ
  pub new_start : ℕ
  pub rows : List Row

-- how many lines are shown before and after a change
abbrev pub context_lines : ℕ
context_lines = 3

-- Two changes are in one hunk if their context meets.
abbrev pub is_near : Change → Change → Bool
is_near c d = nat_le d.old_start (c.old_end + 2 * context_lines)

-- how many changes follow one in its hunk
unfoldable pub near_len : Change → List Change → ℕ
near_len c [] = 0
near_len c (d ∷ ds) = elim (is_near c d) [ true ↦ suc (near_len d ds) | false ↦ 0 ]

-- how many changes are in the first hunk
abbrev pub group_len : List Change → ℕ
group_len [] = 0
group_len (c ∷ cs) = suc (near_len c cs)

abbrev pub onto_group : Change → List (List Change) → List (List Change)
onto_group c [] = (c ∷ []) ∷ []
onto_group c ([] ∷ gs) = (c ∷ []) ∷ gs
onto_group c ((d ∷ g) ∷ gs) = if is_near c d then (c ∷ d ∷ g) ∷ gs else (c ∷ []) ∷ (d ∷ g) ∷ gs

-- the changes of each hunk
unfoldable pub groups : List Change → List (List Change)
groups [] = []
groups (c ∷ cs) = onto_group c (groups cs)

-- The rows from old line `at` to old line `to`, with the changes between.
unfoldable pub rows_in : List Line → List Line → ℕ → List Change → ℕ → List Row
rows_in old new at [] to = map context (slice_range old at to)
rows_in old new at (c ∷ cs) to =
    map context (slice_range old at c.old_start)
    ++ (map removed (slice_range old c.old_start c.old_end)
    ++ (map added (slice_range new c.new_start c.new_end) ++ rows_in old new c.old_end cs to))

-- the end of the last change in the old text
abbrev pub last_end : Change → List Change → ℕ
last_end c [] = c.old_end
last_end c (d ∷ ds) = last_end d ds

-- the end of the last change in the new text
abbrev pub last_new : Change → List Change → ℕ
last_new c [] = c.new_end
last_new c (d ∷ ds) = last_new d ds

-- The old lines from which, and to which, the hunk of a change and those after it goes, and the new
-- ones.
abbrev pub hunk_from : Change → ℕ
hunk_from c = c.old_start - context_lines

abbrev pub hunk_to : List Line → Change → List Change → ℕ
hunk_to old c cs = min (length old) (last_end c cs + context_lines)

abbrev pub hunk_new_from : Change → ℕ
hunk_new_from c = c.new_start - (c.old_start - hunk_from c)

abbrev pub hunk_new_to : List Line → Change → List Change → ℕ
hunk_new_to old c cs = last_new c cs + (hunk_to old c cs - last_end c cs)

-- The changes lead from the start of their hunk to its end.
abbrev pub IsGroup : List Line → List Line → List Change → Type 0
IsGroup old new [] = Unit {0}
IsGroup old new (c ∷ cs) =
    (last_end c cs ≤ hunk_to old c cs)
    × IsRun old new (hunk_from c) (hunk_new_from c) (c ∷ cs) (hunk_to old c cs) (hunk_new_to old c cs)

-- The hunk of a change and those near it.
abbrev pub hunk_of : List Line → List Line → List Change → Hunk
hunk_of old new [] = record { old_start = 0; new_start = 0; rows = [] }
hunk_of old new (c ∷ cs) =
    record { old_start = hunk_from c; new_start = hunk_new_from c; rows = rows_in old new (hunk_from c) (c ∷ cs) (hunk_to old c cs) }

-- the hunks of a script
abbrev pub hunks : List Line → List Line → List Change → List Hunk
hunks old new cs = map (hunk_of old new) (groups cs)
