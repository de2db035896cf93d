-- Edit scripts: changes that lead from old lines to new ones.
use Rattle.std.specs.Prelude.{◌≡◌, ◌≤◌, ◌<◌, ◌+◌, ◌-◌, ℕ, List, [], ◌∷◌, All, length, slice_index_or, slice_range}
use Rattle.text_diff.specs.declared.change.Change.{Change}
use Rattle.text_diff.specs.Lines.{Line}

-- Old lines i to p are new lines j to q.
pub record AreSame (old new : List Line) (i j p q : ℕ) : Type 0 where
  pub old_order : i ≤ p
  pub new_order : j ≤ q
  pub old_end : p ≤ length old
  pub new_end : q ≤ length new
  pub same : slice_range old i p ≡ slice_range new j q

-- A change replaces old lines by new ones; either may be none.
pub record IsChange (old new : List Line) (c : Change) : Type 0 where
  pub old_order : c.old_start ≤ c.old_end
  pub new_order : c.new_start ≤ c.new_end
  pub old_end : c.old_end ≤ length old
  pub new_end : c.new_end ≤ length new

-- The changes lead from old line i and new line j to old line p and new line q: between them the
-- lines are the same.
abbrev pub IsRun : List Line → List Line → ℕ → ℕ → List Change → ℕ → ℕ → Type 0
IsRun old new i j [] p q = AreSame old new i j p q
IsRun old new i j (c ∷ cs) p q =
    AreSame old new i j c.old_start c.new_start × IsChange old new c
    × IsRun old new c.old_end c.new_end cs p q

-- The changes lead from the old lines to the new ones.
abbrev pub IsScript : List Line → List Line → List Change → Type 0
IsScript old new cs = IsRun old new 0 0 cs (length old) (length new)

-- Where a change replaces lines by lines, the first ones differ.
abbrev pub StartDiffers : List Line → List Line → Change → Type 0
StartDiffers old new c =
    c.old_start < length old → c.new_start < length new → slice_index_or old c.old_start [] ≡ slice_index_or new c.new_start [] → ⊥

abbrev pub StartsDiffer : List Line → List Line → List Change → Type 0
StartsDiffer old new cs = All (StartDiffers old new) cs

-- If some lines are before both p and q, from i and j on, the last ones differ.
abbrev pub LastDiffer : List Line → List Line → (i j p q : ℕ) → Type 0
LastDiffer old new i j p q = i < p → j < q → slice_index_or old (p - 1) [] ≡ slice_index_or new (q - 1) [] → ⊥

-- Where a change replaces lines by lines, the last ones differ.
abbrev pub EndDiffers : List Line → List Line → Change → Type 0
EndDiffers old new c = LastDiffer old new c.old_start c.new_start c.old_end c.new_end

abbrev pub EndsDiffer : List Line → List Line → List Change → Type 0
EndsDiffer old new cs = All (EndDiffers old new) cs

-- Old line p and new line q are there, and are the same.
abbrev pub IsSamePair : List Line → List Line → (p q : ℕ) → Type 0
IsSamePair old new p q = (p < length old) × (q < length new) × (slice_index_or old p [] ≡ slice_index_or new q [])

-- Of the lines from i and j on, no two are the same that are fewer than n lines ahead, old and new ones together.
abbrev pub AreApart : List Line → List Line → (i j n : ℕ) → Type 0
AreApart old new i j n = (d r : ℕ) → d < n → r ≤ d → IsSamePair old new (i + r) (j + (d - r)) → ⊥

-- Old line p and new line q are ahead of i and j; there are `old` and `new` lines.
pub record IsAhead (old new i j p q : ℕ) : Type 0 where
  pub old_order : i ≤ p
  pub new_order : j ≤ q
  pub old_end : p ≤ old
  pub new_end : q ≤ new
  pub moves : i + j < p + q
