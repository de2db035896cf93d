-- Changes of files as ranges of bytes, in JSON.
use Rattle.std.specs.Prelude.{◌≡◌, ℕ, List, [], ◌∷◌, ◌++◌, codes, map}
use Rattle.std.specs.List.{flat_map}
use Rattle.text_diff.specs.Bytes.{bytes_of}
use Rattle.text_diff.specs.Lines.{lines}
use Rattle.text_diff.specs.Script.{EndsDiffer, IsScript, StartsDiffer}
use Rattle.text_diff.specs.declared.change.Change.{Change as LineChange}
use Rattle.source_tools.specs.Json.{change_item, file_object}
use Rattle.source_tools.specs.Writes.{Change}

-- The text is the object of the bytes of changes that lead from the old lines to the new ones.
abbrev pub IsChangeList : Change → List ℕ → Type 0
IsChangeList c text =
    (changes : List LineChange) × IsScript (lines c.old) (lines c.bytes) changes × StartsDiffer (lines c.old) (lines c.bytes) changes
    × EndsDiffer (lines c.old) (lines c.bytes) changes × (text ≡ file_object c.path (codes "changes") (flat_map change_item (map (bytes_of (lines c.old) (lines c.bytes)) changes)))

-- The text is the objects of the changes, one after another.
abbrev pub AreChangeLists : List Change → List ℕ → Type 0
AreChangeLists [] text = text ≡ []
AreChangeLists (c ∷ cs) text = (list rest : List ℕ) × (text ≡ list ++ rest) × IsChangeList c list × AreChangeLists cs rest
