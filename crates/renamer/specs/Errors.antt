-- What is printed of an error of a renaming: the words of the error inside.
use Rattle.std.specs.Prelude.{ℕ, List, codes}
use Rattle.syntax_editor.specs.Refusal.{record_message}
use Rattle.rust_document.specs.Commit.{commit_message_of}
use Rattle.rust_document.specs.Payload.{payload_message_of}
use Rattle.renamer.specs.declared.RenameError.{RenameError}
use Rattle.renamer.specs.declared.RenameError.TheVariants.{NoMemory, NoToken, NotRecorded, Refused}

abbrev pub rename_message : RenameError → List ℕ
rename_message (NoToken error) = payload_message_of error
rename_message (NotRecorded error) = record_message error
rename_message (Refused error) = commit_message_of error
rename_message NoMemory = codes "out of memory"
