use Rattle.std.proofs.Common.{◌≡◌, ◌<◌, ℕ, false, string_bytes, slice_index_or}
use Rattle.std.specs.Str.{bytes_eq}
use Rattle.file_target.specs.declared.memory.Entry.{Entry}
use Rattle.file_target.proofs.memory.position.Given as goal

abbrev pub invariant-loop-i : goal.invariant-loop-i
invariant-loop-i l = (k : ℕ) (d : Entry) → k < l.i → bytes_eq (string_bytes (slice_index_or l.entries k d).path) l.path ≡ false
