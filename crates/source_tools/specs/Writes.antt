-- Files that are written one after another.
use Rattle.std.specs.Prelude.{◌≡◌, ◌<◌, ℕ, List, [], ◌∷◌, IfSome, length, take, slice_index_or, Option, Some, None, string_bytes, if◌then◌else◌}
use Rattle.std.specs.Str.{bytes_eq}
use Rattle.file_target.specs.Files.{Files, FileState, IsWriteError}
use Rattle.file_target.specs.declared.error.TargetError.{TargetError}
use Rattle.file_target.specs.declared.version.Version.{Version}
use Rattle.source_tools.specs.declared.writes.FileChange.{FileChange}

-- the bytes at each path
abbrev pub Texts : Type 0
Texts = List ℕ → Option (List ℕ)

abbrev pub bytes_in : Option FileState → Option (List ℕ)
bytes_in None = None
bytes_in (Some f) = Some f.bytes

abbrev pub texts_of : Files → Texts
texts_of files path = bytes_in (files path)

-- A path, the version and the bytes of its file, and the bytes that it gets.
pub record Change : Type 0 where
  pub path : List ℕ
  pub version : Version
  pub old : List ℕ
  pub bytes : List ℕ

-- One file has other bytes.
abbrev pub with_change : Change → Texts → Texts
with_change c texts path = if bytes_eq c.path path then Some c.bytes else texts path

-- The changes are made, one after another.
unfoldable pub with_changes : List Change → Texts → Texts
with_changes [] texts = texts
with_changes (c ∷ cs) texts = with_changes cs (with_change c texts)

-- Of files that are known, these changes are made.
abbrev pub HasChanges : List Change → Option Files → Option Files → Type 0
HasChanges cs None after = Unit {0}
HasChanges cs (Some before) None = ⊥
HasChanges cs (Some before) (Some after) =
    (path : List ℕ) → texts_of after path ≡ with_changes cs (texts_of before) path

-- a change in code
abbrev pub change_in : FileChange → Change
change_in c = record { path = string_bytes c.path; version = c.version; old = c.old.items; bytes = c.new.items }

-- A write of the change fails with this error.
abbrev pub FailsWrite : Files → Change → TargetError → Type 0
FailsWrite files c e = IsWriteError (files c.path) c.version e

-- Of files that were known, the write of the change fails with this error.
abbrev pub FailsIfKnown : Option Files → Option Files → Change → TargetError → Type 0
FailsIfKnown before after c e = IfSome before (λ old. IfSome after (λ files. FailsWrite files c e))

-- The change with a number is that of this path, and its write failed with this error, where the changes before it are made, and no
-- other.
pub record IsUnwritten (cs : List Change) (before : Files) (after : Option Files) (path : List ℕ) (e : TargetError) : Type 0 where
  pub number : ℕ
  pub within : number < length cs
  pub made : HasChanges (take number cs) (Some before) after
  pub at : (d : Change) → path ≡ (slice_index_or cs number d).path
  pub failed : (d : Change) → IfSome after (λ files. FailsWrite files (slice_index_or cs number d) e)
