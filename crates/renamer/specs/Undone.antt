-- Renaming to a name that a text lacks, and back.
use Rattle.std.specs.Prelude.{◌≡◌, ℕ, ◌≤◌, Bool, false, ◌||◌, List, length}
use Rattle.std.specs.Str.{IsUtf8}
use Rattle.rowan_green.specs.Forest.{Forest, empty, node, leaf}
use Rattle.rowan_green.specs.Leaf.{same_leaf}
use Rattle.rust_document.specs.Open.{IsOpened}
use Rattle.rust_document.specs.Step.{MAX_TEXT, State, present}
use Rattle.renamer.specs.Plain.{IsPlain}
use Rattle.renamer.specs.Renamed.{identifier, renamed_text}

-- whether a leaf of a tree is the identifier `name`
abbrev pub has_name : List ℕ → Forest → Bool
has_name name empty = false
has_name name (node k f r) = has_name name f || has_name name r
has_name name (leaf l r) = same_leaf l (identifier name) || has_name name r

-- The names are plain, `new` is no identifier of the text, and the renamed text is within the limit.
pub record CanReturn (d : State) (old new : List ℕ) : Type 0 where
  pub is_text : IsUtf8 d.text
  pub within : IsOpened d.text
  pub old_text : IsUtf8 old
  pub new_text : IsUtf8 new
  pub plain : IsPlain d old new
  pub free : has_name new (present d).forest ≡ false
  pub short : length (renamed_text old new (present d)) ≤ MAX_TEXT

-- A document with the renamed text has the old text once `new` is renamed to `old`.
abbrev pub RenamingsAreUndone : Type 0
RenamingsAreUndone =
    (d e : State) (old new : List ℕ) → CanReturn d old new
    → e ≡ record { edition = d.edition; grammar = d.grammar; text = renamed_text old new (present d); number = e.number }
    → renamed_text new old (present e) ≡ d.text
