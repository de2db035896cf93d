-- System errors as errors of a target, and what is printed of each.
use Rattle.std.specs.Prelude.{ℕ, List, Option, None, Some, codes}
use Rattle.std.specs.declared.io.Error.{Error}
use Rattle.std.specs.declared.io.ErrorKind.{ErrorKind}
use Rattle.std.specs.declared.io.ErrorKind.TheVariants as kinds
use Rattle.std.specs.IoError.{error_kind}
use Rattle.file_target.specs.declared.error.TargetError.{TargetError}
use Rattle.file_target.specs.declared.error.TargetError.TheVariants.{Changed, NotFound, NoMemory, Io}

abbrev pub error_by_kind : ErrorKind → Error → TargetError
error_by_kind kinds.NotFound e = NotFound
error_by_kind kinds.OutOfMemory e = NoMemory
error_by_kind kind e = Io e

-- A file that does not exist and a lack of memory have errors of their own.
abbrev pub target_error_of : Error → TargetError
target_error_of e = error_by_kind (error_kind e) e

-- What is printed. The words of a system's error are the system's.
abbrev pub target_message : TargetError → Option (List ℕ)
target_message NotFound = Some (codes "does not exist")
target_message Changed = Some (codes "changed since it was read")
target_message NoMemory = Some (codes "out of memory")
target_message (Io error) = None
