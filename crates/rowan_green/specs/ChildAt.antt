-- The child at an offset.
use Rattle.std.specs.Prelude.{◌≡◌, ℕ, ◌+◌, ◌≤◌, ◌<◌, List, length, take}
use Rattle.rowan_green.specs.Term.{Term, texts_of}

-- the term of this number begins at `start`, and its text has the byte at `offset`
pub record IsChildAt (es : List Term) (offset : ℕ) (index : ℕ) (start : ℕ) : Type 0 where
  pub present : index < length es
  pub begins : start ≡ length (texts_of (take index es))
  pub from : start ≤ offset
  pub before_end : offset < length (texts_of (take (index + 1) es))
