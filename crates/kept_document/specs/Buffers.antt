-- What is written into the buffers of a caller.
use Rattle.std.specs.Prelude.{◌≡◌, ◌≢◌, ◌⊎◌, ◌<◌, ◌≤◌, ℕ, List, ◌++◌, drop, length}

-- The items are at the front of the buffer, if it holds them: code 0. Else it is as it was: code 1. Their count is written in both
-- cases.
pub record IsPut {T : Type 0} (items : List T) (code : ℕ) (old new : List T) (written : ℕ) : Type 0 where
  pub count : written ≡ length items
  pub fits : length items ≤ length old → (code ≡ 0) × (new ≡ items ++ drop (length items) old)
  pub short : length old < length items → (code ≡ 1) × (new ≡ old)

-- The items are written, unless memory lacks: then the code is 3, the buffer is as it was, and no count is written.
pub record IsWritten {T : Type 0} (items : List T) (code : ℕ) (old new : List T) (written : ℕ) : Type 0 where
  pub lacks_memory : code ≡ 3 → (new ≡ old) × (written ≡ 0)
  pub put : code ≢ 3 → IsPut items code old new written

-- Two buffers that hold all, or none of which is written to.
pub record ArePut {T U : Type 0} (items : List T) (more : List U) (code : ℕ) (old new : List T) (others others' : List U) : Type 0 where
  pub fits : length items ≤ length old → length more ≤ length others
      → (code ≡ 0) × (new ≡ items ++ drop (length items) old) × (others' ≡ more ++ drop (length more) others)
  pub short : (length old < length items) ⊎ (length others < length more) → (code ≡ 1) × (new ≡ old) × (others' ≡ others)

pub record AreWritten {T U : Type 0} (items : List T) (more : List U) (code : ℕ) (old new : List T) (written : ℕ) (others others' : List U) (more_written : ℕ) : Type 0 where
  pub lacks_memory : code ≡ 3 → (new ≡ old) × (others' ≡ others) × (written ≡ 0) × (more_written ≡ 0)
  pub put : code ≢ 3 → ArePut items more code old new others others'
  pub counts : code ≢ 3 → (written ≡ length items) × (more_written ≡ length more)
