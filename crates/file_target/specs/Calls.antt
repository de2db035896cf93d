-- Calls of a file system with their outcomes, and what they make of files.
use Rattle.std.specs.Prelude.{◌≡◌, ℕ, Bool, true, false, List, [], ◌∷◌, ◌++◌, Option, None, Some, IfSome, option_map, if◌then◌else◌}
use Rattle.std.specs.Str.{bytes_eq}
use Rattle.file_target.specs.declared.system.Status.{Status}
use Rattle.file_target.specs.declared.version.Version.{Version}

-- A call and its outcome: what it has returned, or whether it has succeeded.
pub data Call : Type 0 where
  Resolve : List ℕ → Option (List ℕ) → Call
  Examine : List ℕ → Option Status → Call
  Create : List ℕ → Bool → Call
  SetOwner : List ℕ → Option ℕ → ℕ → Bool → Call
  SetMode : ℕ → Bool → Call
  Write : List ℕ → Bool → Call
  Sync : Bool → Call
  Rename : List ℕ → List ℕ → Bool → Call
  SyncDirectory : List ℕ → Bool → Call
  Remove : List ℕ → Bool → Call

-- One call was made.
abbrev pub Adds : Option (List Call) → Option (List Call) → Call → Type 0
Adds old new call = new ≡ option_map (λ calls. calls ++ call ∷ []) old

-- The new file: its path, its bytes unless a write has failed, its mode if it was set, and whether both are on the disk.
pub record NewFile : Type 0 where
  pub path : List ℕ
  pub bytes : Option (List ℕ)
  pub mode : Option ℕ
  pub is_synced : Bool

abbrev pub empty_file : List ℕ → NewFile
empty_file path = record { path = path; bytes = Some []; mode = None; is_synced = false }

-- a file that has these bytes and this mode, on the disk
abbrev pub whole_file : List ℕ → List ℕ → ℕ → NewFile
whole_file path bytes mode = record { path = path; bytes = Some bytes; mode = Some mode; is_synced = true }

-- the file, unless it has left this path
abbrev pub unless_at : List ℕ → NewFile → Option NewFile
unless_at path file = if bytes_eq file.path path then None else Some file

-- What a call makes of the new file. A write appends; one that fails may have written a part.
abbrev pub changed : NewFile → Call → Option NewFile
changed file (SetMode mode true) = Some (record file { mode = Some mode; is_synced = false })
changed file (Write bytes true) = Some (record file { bytes = option_map (λ before. before ++ bytes) file.bytes; is_synced = false })
changed file (Write bytes false) = Some (record file { bytes = None; is_synced = false })
changed file (Sync true) = Some (record file { is_synced = true })
changed file (Rename from to true) = unless_at from file
changed file (Remove path ok) = unless_at path file
changed file call = Some file

-- the new file after a call, if there is one
abbrev pub next_file : Option NewFile → Call → Option NewFile
next_file file (Create path true) = Some (empty_file path)
next_file None call = None
next_file (Some file) call = changed file call

-- A call gives a path to no file but one that has all of the bytes, on the disk. Whatever stops the system at a rename, the path has
-- its old file or that one.
abbrev pub IsWhole : List ℕ → Option NewFile → Call → Type 0
IsWhole bytes file (Rename from to ok) = (mode : ℕ) × (file ≡ Some (whole_file from bytes mode))
IsWhole bytes file call = Unit {0}

-- The calls are such, one after another: each file has its old bytes or all of the new ones, whichever call fails or is the last.
abbrev pub AreWhole : List ℕ → Option NewFile → List Call → Type 0
AreWhole bytes file [] = Unit {0}
AreWhole bytes file (call ∷ calls) = IsWhole bytes file call × AreWhole bytes (next_file file call) calls

-- the new file after calls
abbrev pub file_after : Option NewFile → List Call → Option NewFile
file_after file [] = file
file_after file (call ∷ calls) = file_after (next_file file call) calls

abbrev pub new_file : List Call → Option NewFile
new_file calls = file_after None calls

-- The file that a path leads to was of this version, and was replaced by one with these bytes and its mode, after a last look at its
-- version. The directory was synced, as far as that succeeds.
pub record IsReplaced (path : List ℕ) (version : Version) (bytes : List ℕ) (calls : List Call) : Type 0 where
  pub target : List ℕ
  pub status : Status
  pub more : List Call
  pub from : List ℕ
  pub again : Status
  pub is_synced : Bool
  pub all : calls ≡ (Resolve path (Some target) ∷ Examine target (Some status) ∷ more) ++ (Examine target (Some again) ∷ Rename from target true ∷ SyncDirectory target is_synced ∷ [])
  pub expected : status.version ≡ version
  pub unchanged : again.version ≡ version
  pub whole : new_file (Resolve path (Some target) ∷ Examine target (Some status) ∷ more) ≡ Some (whole_file from bytes status.mode)
