-- What code tells of commands.
use Rattle.std.specs.Prelude.{◌≡◌, ◌<◌, ◌≤◌, ℕ, ◌+◌, List, ◌++◌, length, take}
use Rattle.rust_document.specs.Step.{State}
use Rattle.rust_document.specs.declared.error.CommitError.{CommitError}
use Rattle.rust_document.specs.declared.error.CommitError.TheVariants as commits
use Rattle.rust_document.specs.declared.error.WithoutMessagesError.{WithoutMessagesError}
use Rattle.rust_document.specs.declared.error.WithoutMessagesError.TheVariants as cleans
use Rattle.rust_document.specs.declared.error.EditError.{EditError}
use Rattle.rust_document.specs.declared.error.EditError.TheVariants as edits
use Rattle.rust_document.specs.declared.error.PayloadError.{PayloadError}
use Rattle.rust_document.specs.declared.error.PayloadError.TheVariants as payloads
use Rattle.syntax_editor.specs.declared.error.RecordError.{RecordError}
use Rattle.syntax_editor.specs.declared.error.RecordError.TheVariants as records
use Rattle.syntax_tree.specs.declared.error.PositionError.{PositionError}
use Rattle.syntax_tree.specs.declared.error.PositionError.TheVariants as positions
use Rattle.document_requests.specs.Reply as answered
use Rattle.document_requests.specs.Request.{Command}
use Rattle.document_requests.specs.Session.{Session, Answer, Taken, Withheld, Prepared, Stopped, run}
use Rattle.document_requests.specs.declared.stop.Stop.{Stop}
use Rattle.document_requests.specs.declared.stop.Stop.TheVariants.{Refused, NoMemory}
use Rattle.document_requests.specs.declared.reply.Refusal.TheVariants as refusals

abbrev pub session : State → ℕ → Session
session document next = record { document = document; next = next }

-- What was taken of a text, or a change that was prepared, was refused so, and this number is next. Out of memory is no answer.
abbrev pub IsWithheld : Taken → ℕ → Stop → Type 0
IsWithheld t next (Refused refusal) = t ≡ Withheld refusal next
IsWithheld t next NoMemory = Unit {0}

abbrev pub IsUnprepared : Prepared → ℕ → Stop → Type 0
IsUnprepared p next (Refused refusal) = p ≡ Stopped refusal next
IsUnprepared p next NoMemory = Unit {0}

-- The answer is this refusal, and this is what it leaves. Being out of memory is no answer.
abbrev pub IsStopped : Answer → Session → Stop → Type 0
IsStopped a after (Refused refusal) = a ≡ record { reply = answered.Refused refusal; after = after }
IsStopped a after NoMemory = Unit {0}

-- The commands were run: their replies stand after the earlier ones.
abbrev pub Runs : List Command → Session → List answered.Reply → List answered.Reply → Session → Type 0
Runs commands s earlier replies after = let r = run commands s in (replies ≡ earlier ++ r.replies) × (after ≡ r.after)

-- A command was stopped: of the tree numbers that it takes, some were taken.
abbrev pub TakesSome : ℕ → ℕ → ℕ → Type 0
TakesSome before next after = (before ≤ next) × (next ≤ after)

-- The first `count` of the commands were run, which are not all, and the one after them was stopped: the document is as they left it,
-- and of the tree numbers that this one takes, some were taken.
pub record RunsFront (commands : List Command) (s : Session) (earlier replies : List answered.Reply) (after : Session) : Type 0 where
  pub count : ℕ
  pub fewer : count < length commands
  pub told : replies ≡ earlier ++ (run (take count commands) s).replies
  pub same : after.document ≡ (run (take count commands) s).after.document
  pub numbers : TakesSome (run (take count commands) s).after.next after.next (run (take (count + 1) commands) s).after.next

abbrev pub stop_of_payload : PayloadError → Stop
stop_of_payload payloads.NotOneToken = Refused refusals.Payload
stop_of_payload payloads.TooLong = Refused refusals.Payload
stop_of_payload payloads.NoTreeNumber = Refused refusals.NoTreeNumber
stop_of_payload payloads.NoMemory = NoMemory
stop_of_payload payloads.Message = Refused refusals.Payload

abbrev pub stop_of_edit : EditError → Stop
stop_of_edit edits.TooLong = Refused refusals.TooLong
stop_of_edit edits.NoTreeNumber = Refused refusals.NoTreeNumber
stop_of_edit edits.NoMemory = NoMemory

abbrev pub stop_of_record : RecordError → Stop
stop_of_record records.Foreign = Refused refusals.NoTarget
stop_of_record records.BadTarget = Refused refusals.BadTarget
stop_of_record records.NoMemory = NoMemory
stop_of_record records.BadRange = Refused refusals.BadTarget

abbrev pub stop_of_position : PositionError → Stop
stop_of_position positions.NoParent = Refused refusals.NoParent
stop_of_position positions.NoMemory = NoMemory

abbrev pub stop_of_commit : CommitError → Stop
stop_of_commit commits.Foreign = Refused refusals.NoTarget
stop_of_commit commits.Intersecting = Refused refusals.Intersecting
stop_of_commit commits.MissingMapping = Refused refusals.MissingMapping
stop_of_commit commits.TooLong = Refused refusals.TooLong
stop_of_commit commits.Unfaithful = Refused refusals.Unfaithful
stop_of_commit commits.NoTreeNumber = Refused refusals.NoTreeNumber
stop_of_commit commits.NoMemory = NoMemory

abbrev pub stop_of_clean_commit : WithoutMessagesError → Stop
stop_of_clean_commit cleans.Messages = Refused refusals.Messages
stop_of_clean_commit (cleans.Refused error) = stop_of_commit error
