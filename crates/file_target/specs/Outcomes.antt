-- What calls of a file system have returned.
use Rattle.std.specs.Prelude.{ℕ, List, Option, None, Some, Result, Ok, Err, string_bytes, String}
use Rattle.std.specs.declared.alloc.Global.{Global}
use Rattle.file_target.specs.declared.system.Status.{Status}

abbrev pub resolved : {E : Type 0} → Result (String Global) E → Option (List ℕ)
resolved (Ok path) = Some (string_bytes path)
resolved (Err error) = None

abbrev pub examined : {E : Type 0} → Result Status E → Option Status
examined (Ok status) = Some status
examined (Err error) = None
