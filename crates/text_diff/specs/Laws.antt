-- What holds of scripts and lines.
use Rattle.std.specs.Prelude.{◌≡◌, ℕ, List, Some}
use Rattle.text_diff.specs.declared.change.Change.{Change}
use Rattle.text_diff.specs.Lines.{Line, lines, joined}
use Rattle.text_diff.specs.Script.{IsScript}
use Rattle.text_diff.specs.Hunks.{hunks}
use Rattle.text_diff.specs.Patch.{patched}

-- The lines of a text are the text.
abbrev pub LinesJoin : Type 0
LinesJoin = (text : List ℕ) → joined (lines text) ≡ text

-- The hunks of a script make the new lines of the old ones.
abbrev pub ScriptsPatch : Type 0
ScriptsPatch =
    (old new : List Line) (cs : List Change) → IsScript old new cs →
    patched (hunks old new cs) old ≡ Some new
