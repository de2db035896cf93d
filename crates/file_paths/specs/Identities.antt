-- Files by their identities.
use Rattle.std.specs.Prelude.{◌≡◌, ◌⊎◌, ◌≤◌, ◌<◌, ℕ, List, Option, Some, None, slice_index_or}
use Rattle.file_paths.specs.declared.file_id.FileId.{FileId}

-- Two identities are known, and are one.
abbrev pub AreOneFile : Option FileId → Option FileId → Type 0
AreOneFile (Some a) (Some b) = a ≡ b
AreOneFile (Some a) None = ⊥
AreOneFile None b = ⊥

-- The file at `first` is the one at `index`, or is this index itself, and no file before it is that one.
pub record IsFirst (ids : List (Option FileId)) (index first : ℕ) : Type 0 where
  pub within : first ≤ index
  pub one : (first ≡ index) ⊎ AreOneFile (slice_index_or ids first None) (slice_index_or ids index None)
  pub none_before : (k : ℕ) → k < first → AreOneFile (slice_index_or ids k None) (slice_index_or ids index None) → ⊥
