-- The outcomes of files that are shown one after another.
use Rattle.std.specs.Prelude.{◌≡◌, ◌⊎◌, ℕ, suc, ◌==◌, Bool, false, true, not, nat_lt, List, [], ◌∷◌, map, length, chars, Option, Some, None, Result, Ok, Err, MatchResult, string_bytes, if◌then◌else◌}
use Rattle.std.specs.List.{flat_map, list_any}
use Rattle.std.specs.declared.io.Error.{Error}
use Rattle.file_target.specs.Files.{Files, read_of}
use Rattle.file_target.specs.declared.error.TargetError.{TargetError}
use Rattle.file_target.specs.declared.version.Version.{Version}
use Rattle.rust_document.specs.Reading.{messages_in}
use Rattle.rust_document.specs.Step.{MAX_TEXT}
use Rattle.source_tools.specs.Decoded.{decoded}
use Rattle.source_tools.specs.FileErrors.{file_error_of}
use Rattle.source_tools.specs.Texts.{rows_of}
use Rattle.source_tools.specs.declared.source.Dialect.{Dialect}
use Rattle.source_tools.specs.declared.source.Source.{Source}
use Rattle.source_tools.specs.declared.source.FileError.{FileError}
use Rattle.source_tools.specs.declared.source.FileError.TheVariants.{NotFound, Changed, NotUtf8, TooLong, NoMemory, Io}
use Rattle.source_tools.specs.declared.source.FileFault.{FileFault}
use Rattle.source_tools.specs.declared.view.View.{View}
use Rattle.source_tools.specs.declared.view.View.TheVariants.{Messages, Tokens, Tree}
use Rattle.source_tools.specs.declared.view.FileView.{FileView}
use Rattle.source_tools.specs.declared.summary.Summary.{Summary}

-- The rows of a file, and whether its reading has messages; or why it has none: there is no file, it is no text or too long, or the
-- system does not read it. Of files that are not known more can go wrong.
pub data Outcome : Type 0 where
  Viewed : List ℕ → Bool → Outcome
  Missing : Outcome
  NotText : Outcome
  Long : Outcome
  Unreadable : Error → Outcome
  Unknown : Outcome

-- Messages count where they are shown.
abbrev pub has_messages : View → Dialect → List ℕ → Bool
has_messages (Messages format) dialect text = not (length (messages_in dialect.grammar dialect.edition (chars text)) == 0)
has_messages (Tokens format) dialect text = false
has_messages (Tree format) dialect text = false

-- the outcome of a text
abbrev pub viewed : View → List ℕ → Dialect → List ℕ → Outcome
viewed view path dialect text =
    if nat_lt MAX_TEXT (length text) then Long
    else Viewed (rows_of view path dialect text) (has_messages view dialect text)

abbrev pub viewed_if_any : View → List ℕ → Dialect → Option (List ℕ) → Outcome
viewed_if_any view path dialect None = NotText
viewed_if_any view path dialect (Some text) = viewed view path dialect text

-- the outcome of a file with these bytes
abbrev pub outcome_of : View → Source → List ℕ → Outcome
outcome_of view s bytes = viewed_if_any view (string_bytes s.path) s.dialect (decoded bytes)

abbrev pub failed : FileError → Outcome
failed NotFound = Missing
failed NotUtf8 = NotText
failed TooLong = Long
failed Changed = Unknown
failed NoMemory = Unknown
failed (Io e) = Unreadable e

-- the outcome of a file, by what a read of it answers
abbrev pub outcome_read : View → Source → Result (List ℕ × Version) TargetError → Outcome
outcome_read view s (Ok read) = outcome_of view s read.0
outcome_read view s (Err e) = failed (file_error_of e)

abbrev pub outcome_in : View → Files → Source → Outcome
outcome_in view files s = outcome_read view s (read_of (files (string_bytes s.path)))

abbrev pub rows_in : Outcome → List ℕ
rows_in (Viewed rows has) = rows
rows_in o = []

-- what is written for files
abbrev pub rows_of_all : View → Files → List Source → List ℕ
rows_of_all view files sources = flat_map (λ s. rows_in (outcome_in view files s)) sources

-- ---- outcomes in code

-- Out of memory comes at any point.
abbrev pub IsOutcome : Outcome → Result FileView FileError → Type 0
IsOutcome o r =
    MatchResult r (λ v. o ≡ Viewed v.rows.items v.has_messages) (λ e. (e ≡ NoMemory) ⊎ (o ≡ failed e))

abbrev pub is_fault : Outcome → Bool
is_fault (Viewed rows has) = false
is_fault o = true

abbrev pub says_something : Outcome → Bool
says_something (Viewed rows has) = has
says_something o = false

-- The files that are left out, by their numbers.
unfoldable pub faults_from : ℕ → List Outcome → List (ℕ × Outcome)
faults_from i [] = []
faults_from i (o ∷ os) = if is_fault o then (i, o) ∷ faults_from (suc i) os else faults_from (suc i) os

abbrev pub fault_in : FileFault → ℕ × Outcome
fault_in f = (f.index, failed f.error)

-- whether a file has messages, and which files are left out
pub record IsSummary (os : List Outcome) (s : Summary) : Type 0 where
  pub messages : s.has_messages ≡ list_any says_something os
  pub faults : map fault_in s.faults.items ≡ faults_from 0 os

-- 2 if a file is left out, else 1 if a file has messages
abbrev pub status_of : List Outcome → ℕ
status_of os = if list_any is_fault os then 2 else (if list_any says_something os then 1 else 0)
