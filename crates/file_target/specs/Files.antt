-- Files by path, and what reading and writing them gives.
use Rattle.std.specs.Prelude.{◌≡◌, ◌⊎◌, ◌<◌, ◌++◌, ℕ, Bool, false, true, List, [], ◌∷◌, length, slice_index_or, Option, None, Some, IsSome, Result, Ok, Err, MatchResult, string_bytes, if◌then◌else◌}
use Rattle.std.specs.Str.{bytes_eq}
use Rattle.std.specs.declared.io.Error.{Error}
use Rattle.file_target.specs.declared.version.Version.{Version}
use Rattle.file_target.specs.declared.target.Contents.{Contents}
use Rattle.file_target.specs.declared.error.TargetError.{TargetError}
use Rattle.file_target.specs.declared.error.TargetError.TheVariants.{NotFound, Changed, NoMemory, Io}
use Rattle.file_target.specs.declared.memory.Entry.{Entry}

-- The bytes of a file, its version, and the system's error where it may not be read, or not be written.
pub record FileState : Type 0 where
  pub bytes : List ℕ
  pub version : Version
  pub read_error : Option Error
  pub write_error : Option Error

-- the file at each path
abbrev pub Files : Type 0
Files = List ℕ → Option FileState

abbrev pub read_unless : Option Error → FileState → Result (List ℕ × Version) TargetError
read_unless None f = Ok (f.bytes, f.version)
read_unless (Some e) f = Err (Io e)

-- What a read of a file answers, memory aside: the bytes and the version, or why there are none.
abbrev pub read_of : Option FileState → Result (List ℕ × Version) TargetError
read_of None = Err NotFound
read_of (Some f) = read_unless f.read_error f

-- The error of a read: that of the file; or out of memory, if there is a file.
abbrev pub IsReadError : Option FileState → TargetError → Type 0
IsReadError o e = (read_of o ≡ Err e) ⊎ ((e ≡ NoMemory) × IsSome o)

-- A read returns the file, or why it does not. Of files that are not known nothing is said.
abbrev pub ReadGives : Option Files → List ℕ → Result Contents TargetError → Type 0
ReadGives None path r = Unit {0}
ReadGives (Some files) path r =
    MatchResult r (λ c. read_of (files path) ≡ Ok (c.bytes.items, c.version)) (IsReadError (files path))

-- The error of a write: no file, a file of another version, one that the system does not write, or out of memory.
abbrev pub IsWriteError : Option FileState → Version → TargetError → Type 0
IsWriteError None v e = e ≡ NotFound
IsWriteError (Some f) v NotFound = ⊥
IsWriteError (Some f) v Changed = f.version ≡ v → ⊥
IsWriteError (Some f) v NoMemory = f.version ≡ v
IsWriteError (Some f) v (Io e) = (f.version ≡ v) × (f.write_error ≡ Some e)

-- The file was of the version that is expected and can be written. It has the bytes now, and a version of its own; no other file has
-- changed.
pub record IsWritten (files : Files) (path : List ℕ) (v : Version) (bytes : List ℕ) (now : Files) : Type 0 where
  pub old : FileState
  pub was : files path ≡ Some old
  pub expected : old.version ≡ v
  pub writable : old.write_error ≡ None
  pub version : Version
  pub is : now path ≡ Some (record old { bytes = bytes; version = version })
  pub later : version ≡ v → ⊥
  pub others : (other : List ℕ) → (other ≡ path → ⊥) → now other ≡ files other

-- A write replaces the bytes of a file, or says why it does not; on error nothing has changed.
abbrev pub WriteGives : Option Files → List ℕ → Version → List ℕ → Option Files → Result (Unit {0}) TargetError → Type 0
WriteGives None path v bytes after r = Unit {0}
WriteGives (Some files) path v bytes after r =
    (now : Files) × (after ≡ Some now)
    × MatchResult r (λ _. IsWritten files path v bytes now) (λ e. ((other : List ℕ) → now other ≡ files other) × IsWriteError (files path) v e)

-- the file of an entry
abbrev pub state_of : Entry → FileState
state_of e = record { bytes = e.bytes.items; version = e.version; read_error = e.read_error; write_error = e.write_error }

-- the files of entries: the first entry of a path is its file
unfoldable pub files_of : List Entry → Files
files_of [] path = None
files_of (e ∷ es) path = if bytes_eq (string_bytes e.path) path then Some (state_of e) else files_of es path

-- The first entry at a path is at the index, or there is none.
abbrev pub IsPosition : List Entry → List ℕ → Option ℕ → Type 0
IsPosition es path None = files_of es path ≡ None
IsPosition es path (Some i) =
    (i < length es) × ((k : ℕ) (d : Entry) → k < i → bytes_eq (string_bytes (slice_index_or es k d).path) path ≡ false)
    × ((d : Entry) → string_bytes (slice_index_or es i d).path ≡ path)

-- The file is added behind the others.
pub record IsAdded (old : List Entry) (path bytes : List ℕ) (new : List Entry) : Type 0 where
  pub entry : Entry
  pub pushed : new ≡ old ++ entry ∷ []
  pub at : string_bytes entry.path ≡ path
  pub has : entry.bytes.items ≡ bytes

-- The file may be read unless `read` is an error, and written unless `write` is one. No other file has changed.
pub record Permits (old : Files) (path : List ℕ) (read write : Option Error) (new : Files) : Type 0 where
  pub file : FileState
  pub was : old path ≡ Some file
  pub is : new path ≡ Some (record file { read_error = read; write_error = write })
  pub others : (other : List ℕ) → (other ≡ path → ⊥) → new other ≡ old other
