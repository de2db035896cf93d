-- Errors of a target as reasons why a file is left out.
use Rattle.file_target.specs.declared.error.TargetError.{TargetError}
use Rattle.file_target.specs.declared.error.TargetError.TheVariants as targets
use Rattle.source_tools.specs.declared.source.FileError.{FileError}
use Rattle.source_tools.specs.declared.source.FileError.TheVariants.{NotFound, Changed, NoMemory, Io}

abbrev pub file_error_of : TargetError → FileError
file_error_of targets.NotFound = NotFound
file_error_of targets.Changed = Changed
file_error_of targets.NoMemory = NoMemory
file_error_of (targets.Io e) = Io e
