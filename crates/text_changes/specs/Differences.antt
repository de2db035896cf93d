-- Where two texts differ.
use Rattle.std.specs.Prelude.{ℕ, ◌≡◌, ◌≤◌, List, slice_range, IsCharBoundary}
use Rattle.std.specs.List.{replace_range}

-- Two texts agree up to `start` and from the two ends on, and none of these cuts a character: the second text is the
-- first with the bytes between replaced.
pub record IsDifference (old new : List ℕ) (start old_end new_end : ℕ) : Type 0 where
  pub old_order : start ≤ old_end
  pub new_order : start ≤ new_end
  pub cuts_old_start : IsCharBoundary old start
  pub cuts_new_start : IsCharBoundary new start
  pub cuts_old_end : IsCharBoundary old old_end
  pub cuts_new_end : IsCharBoundary new new_end
  pub replaced : replace_range old start old_end (slice_range new start new_end) ≡ new
