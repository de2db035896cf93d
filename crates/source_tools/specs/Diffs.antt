-- Diffs of changes.
use Rattle.std.specs.Prelude.{◌≡◌, ℕ, List, [], ◌∷◌, ◌++◌, Some}
use Rattle.text_diff.specs.Lines.{lines}
use Rattle.text_diff.specs.Hunks.{Hunk, hunks}
use Rattle.text_diff.specs.Patch.{patched}
use Rattle.text_diff.specs.Script.{IsScript, StartsDiffer}
use Rattle.text_diff.specs.declared.change.Change.{Change as LineChange}
use Rattle.text_diff.specs.Unified.{unified_text}
use Rattle.source_tools.specs.Writes.{Change}

-- The text of hunks that make the new lines of the old ones.
abbrev pub IsPatch : Change → List ℕ → Type 0
IsPatch c d =
    (hs : List Hunk) × (d ≡ unified_text c.path hs) × (patched hs (lines c.old) ≡ Some (lines c.bytes))

-- The text of the hunks, with three lines of context, of changes that lead from the old lines to the new ones.
abbrev pub IsOfScript : Change → List ℕ → Type 0
IsOfScript c d =
    (changes : List LineChange) × IsScript (lines c.old) (lines c.bytes) changes × StartsDiffer (lines c.old) (lines c.bytes) changes
    × (d ≡ unified_text c.path (hunks (lines c.old) (lines c.bytes) changes))

abbrev pub IsDiff : Change → List ℕ → Type 0
IsDiff c d = IsPatch c d × IsOfScript c d

-- The text is the diffs of the changes, one after another.
abbrev pub AreDiffs : List Change → List ℕ → Type 0
AreDiffs [] text = text ≡ []
AreDiffs (c ∷ cs) text = (d rest : List ℕ) × (text ≡ d ++ rest) × IsDiff c d × AreDiffs cs rest
