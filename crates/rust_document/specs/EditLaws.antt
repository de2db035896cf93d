-- What holds of every edit.
use Rattle.std.specs.Prelude.{◌≡◌, ℕ, ◌+◌, ◌-◌, true, List, take, drop, length}
use Rattle.std.specs.Str.{IsUtf8}
use Rattle.rust_document.specs.Edit.{can_edit, edited}

-- the bytes from `start` to just before `end`
abbrev pub bytes_between : List ℕ → ℕ → ℕ → List ℕ
bytes_between text start end = take (end - start) (drop start text)

-- The edit that puts the old bytes back can be made, and gives the old text.
pub record IsUndone (text : List ℕ) (start end : ℕ) (put : List ℕ) : Type 0 where
  pub can_be : can_edit (edited text start end put) start (start + length put) ≡ true
  pub old_text : edited (edited text start end put) start (start + length put) (bytes_between text start end) ≡ text

abbrev pub EditsAreUndone : Type 0
EditsAreUndone =
    (text put : List ℕ) (start end : ℕ) → IsUtf8 text → IsUtf8 put → can_edit text start end ≡ true → IsUndone text start end put
