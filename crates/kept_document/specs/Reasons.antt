-- Why a call changes nothing, and the codes of C.
use Rattle.std.specs.Prelude.{ℕ}
use Rattle.rust_document.specs.declared.error.OpenError.{OpenError}
use Rattle.rust_document.specs.declared.error.OpenError.TheVariants as opens
use Rattle.rust_document.specs.declared.error.EditError.{EditError}
use Rattle.rust_document.specs.declared.error.EditError.TheVariants as edits
use Rattle.rust_document.specs.declared.error.CommitError.{CommitError}
use Rattle.rust_document.specs.declared.error.CommitError.TheVariants as commits
use Rattle.rust_document.specs.declared.error.PayloadError.{PayloadError}
use Rattle.rust_document.specs.declared.error.PayloadError.TheVariants as payloads
use Rattle.syntax_editor.specs.declared.error.RecordError.{RecordError}
use Rattle.syntax_editor.specs.declared.error.RecordError.TheVariants as records
use Rattle.document_requests.specs.declared.reply.Refusal.{Refusal}
use Rattle.document_requests.specs.declared.reply.Refusal.TheVariants as refusals
use Rattle.renamer.specs.declared.RenameError.{RenameError}
use Rattle.renamer.specs.declared.RenameError.TheVariants as renames
use Rattle.kept_document.specs.declared.reason.Reason.{Reason}
use Rattle.kept_document.specs.declared.reason.Reason.TheVariants.{Short, NotUtf8, NoMemory, NoSuch, TooLong, Range, NotOpen, IsOpen, NoNumber, NoCommand, Unfaithful, NoTarget, Payload, NoParent, BadTarget, Intersecting, MissingMapping, TooDeep}

-- the code of C
abbrev pub code_of : Reason → ℕ
code_of Short = 1
code_of NotUtf8 = 2
code_of NoMemory = 3
code_of NoSuch = 4
code_of TooLong = 5
code_of Range = 6
code_of NotOpen = 7
code_of IsOpen = 8
code_of NoNumber = 9
code_of NoCommand = 10
code_of Unfaithful = 11
code_of NoTarget = 12
code_of Payload = 13
code_of NoParent = 14
code_of BadTarget = 15
code_of Intersecting = 16
code_of MissingMapping = 17
code_of TooDeep = 18

-- a text that could not be opened
abbrev pub of_open : OpenError → Reason
of_open opens.TooLong = TooLong
of_open opens.NoTreeNumber = NoNumber
of_open opens.NoMemory = NoMemory

-- an edit that could not be made
abbrev pub of_edit : EditError → Reason
of_edit edits.TooLong = TooLong
of_edit edits.NoTreeNumber = NoNumber
of_edit edits.NoMemory = NoMemory

-- a command that is refused
abbrev pub of_refusal : Refusal → Reason
of_refusal refusals.Request = NoCommand
of_refusal refusals.Float = NoCommand
of_refusal refusals.Range = Range
of_refusal refusals.TooLong = TooLong
of_refusal refusals.NoTarget = NoTarget
of_refusal refusals.Payload = Payload
of_refusal refusals.NoParent = NoParent
of_refusal refusals.BadTarget = BadTarget
of_refusal refusals.Intersecting = Intersecting
of_refusal refusals.MissingMapping = MissingMapping
of_refusal refusals.Unfaithful = Unfaithful
of_refusal refusals.NoTreeNumber = NoNumber
of_refusal refusals.Messages = NoCommand

-- a renaming that could not be made
abbrev pub of_payload : PayloadError → Reason
of_payload payloads.Message = NoCommand
of_payload payloads.NotOneToken = NoCommand
of_payload payloads.TooLong = TooLong
of_payload payloads.NoTreeNumber = NoNumber
of_payload payloads.NoMemory = NoMemory

abbrev pub of_record : RecordError → Reason
of_record records.NoMemory = NoMemory
of_record error = NoCommand

abbrev pub of_commit : CommitError → Reason
of_commit commits.Foreign = NoCommand
of_commit commits.Intersecting = Intersecting
of_commit commits.MissingMapping = MissingMapping
of_commit commits.TooLong = TooLong
of_commit commits.Unfaithful = Unfaithful
of_commit commits.NoTreeNumber = NoNumber
of_commit commits.NoMemory = NoMemory

abbrev pub of_rename : RenameError → Reason
of_rename (renames.NoToken error) = of_payload error
of_rename (renames.NotRecorded error) = of_record error
of_rename (renames.Refused error) = of_commit error
of_rename renames.NoMemory = NoMemory
