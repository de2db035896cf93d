use Rattle.std.proofs.Common.{◌<◌, ℕ, None, slice_index_or}
use Rattle.file_paths.specs.Identities.{AreOneFile}
use Rattle.file_paths.proofs.file_id.first_same.Given as goal

abbrev pub invariant-loop-i : goal.invariant-loop-i
invariant-loop-i l = (k : ℕ) → k < l.i → AreOneFile (slice_index_or l.ids k None) (slice_index_or l.ids l.index None) → ⊥
