-- How far the calls that replace a file have come.
use Rattle.std.specs.Prelude.{◌≡◌, ◌⊎◌, ℕ, Bool, true, List, [], ◌∷◌, ◌++◌, Option, None, Some}
use Rattle.file_target.specs.Calls.{AreWhole, Call, Examine, NewFile, Rename, SyncDirectory, new_file, whole_file}
use Rattle.file_target.specs.declared.system.Status.{Status}
use Rattle.file_target.specs.declared.version.Version.{Version}

-- The calls begin with these, left this new file, and gave no path to a file that is not whole.
pub record IsAt (bytes : List ℕ) (front : List Call) (file : Option NewFile) (calls : List Call) : Type 0 where
  pub more : List Call
  pub all : calls ≡ front ++ more
  pub leaves : new_file calls ≡ file
  pub whole : AreWhole bytes None calls

-- There is a new file at this path.
pub record HasFile (bytes : List ℕ) (front : List Call) (path : List ℕ) (calls : List Call) : Type 0 where
  pub file : NewFile
  pub at : file.path ≡ path
  pub is : IsAt bytes front (Some file) calls

-- There is a new file at this path, or none.
abbrev pub IsLeft : List ℕ → List Call → List ℕ → List Call → Type 0
IsLeft bytes front path calls = HasFile bytes front path calls ⊎ IsAt bytes front None calls

-- The calls before these are those of a trace.
abbrev pub Follows : Option (List Call) → (List Call → List Call → Type 0) → List Call → Type 0
Follows old P after = (before : List Call) × (old ≡ Some before) × P before after

-- The file was renamed after a last look at the version, and then the directory was synced, as far as that succeeds.
pub record IsPut (from to : List ℕ) (version : Version) (before after : List Call) : Type 0 where
  pub again : Status
  pub is_synced : Bool
  pub all : after ≡ before ++ (Examine to (Some again) ∷ Rename from to true ∷ SyncDirectory to is_synced ∷ [])
  pub unchanged : again.version ≡ version

-- The calls so far left a whole file of this mode, which was put.
pub record IsPutWhole (bytes : List ℕ) (front : List Call) (from to : List ℕ) (status : Status) (calls : List Call) : Type 0 where
  pub before : List Call
  pub is : IsAt bytes front (Some (whole_file from bytes status.mode)) before
  pub put : IsPut from to status.version before calls
