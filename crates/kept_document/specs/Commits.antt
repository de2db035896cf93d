-- Commits of a kept document.
use Rattle.std.specs.Prelude.{◌≡◌, ◌⊎◌, ℕ, false, true, List, [], ◌∷◌, map, Option, Some, None, option_and_then}
use Rattle.std.specs.Str.{IsUtf8}
use Rattle.serde_json.specs.Find.{as_array}
use Rattle.serde_json.specs.Read.{read}
use Rattle.ra_parser.specs.declared.grammar.Grammar.{Grammar}
use Rattle.document_requests.specs.Answered.{ends_of}
use Rattle.document_requests.specs.Applied.{session}
use Rattle.document_requests.specs.Reply as replies
use Rattle.document_requests.specs.Reply.{Reply}
use Rattle.document_requests.specs.Request.{Change, Command, Commit, all_in, command_by}
use Rattle.document_requests.specs.Session.{Answer, committed}
use Rattle.document_requests.specs.declared.reply.Refusal.{Refusal}
use Rattle.rust_document.specs.Step.{State}
use Rattle.kept_document.specs.Depth.{is_deep_commit}
use Rattle.kept_document.specs.Reasons.{of_refusal}
use Rattle.kept_document.specs.declared.kept.Kept.{Kept}
use Rattle.kept_document.specs.declared.reason.Reason.{Reason}
use Rattle.kept_document.specs.declared.reason.Reason.TheVariants.{NotUtf8, NoCommand, NoMemory, TooDeep}

-- the changes of a list of commands that is one commit
abbrev pub only_commit : List Command → Option (List Change)
only_commit (Commit changes ∷ []) = Some changes
only_commit commands = None

-- the changes of bytes that are such a list in JSON
abbrev pub commit_in : Grammar → List ℕ → Option (List Change)
commit_in grammar bytes =
    option_and_then only_commit (option_and_then (all_in (command_by grammar)) (option_and_then as_array (read bytes)))

-- what a commit is answered, and what it leaves
abbrev pub answered : List Change → Kept → Answer
answered changes old = committed changes (session old.document old.ids)

-- a commit was accepted: the ranges are those that it inserted
pub record IsAccepted (changes : List Change) (old new : Kept) : Type 0 where
  pub flat : is_deep_commit old.document changes ≡ false
  pub answer : answered changes old ≡ record { reply = replies.Changed (map ends_of new.changed.items); after = session new.document new.ids }

abbrev pub IsCommitted : Option (List Change) → Kept → Kept → Type 0
IsCommitted None old new = ⊥
IsCommitted (Some changes) old new = IsAccepted changes old new

-- a commit was refused
pub record IsRefused (changes : List Change) (old new : Kept) (reason : Reason) : Type 0 where
  pub refusal : Refusal
  pub flat : is_deep_commit old.document changes ≡ false
  pub is : reason ≡ of_refusal refusal
  pub answer : answered changes old ≡ record { reply = replies.Refused refusal; after = session new.document new.ids }

-- no commit, or a refused one
abbrev pub RefusesChanges : Option (List Change) → Kept → Kept → Reason → Type 0
RefusesChanges None old new reason = reason ≡ NoCommand
RefusesChanges (Some changes) old new reason = IsRefused changes old new reason

-- A text that a commit puts or makes is too deep. Out of memory comes at any point.
abbrev pub StopsChanges : State → List Change → Reason → Type 0
StopsChanges d changes reason = (reason ≡ NoMemory) ⊎ ((reason ≡ TooDeep) × (is_deep_commit d changes ≡ true))

abbrev pub StopsCommit : State → Option (List Change) → Reason → Type 0
StopsCommit d None reason = reason ≡ NoMemory
StopsCommit d (Some changes) reason = StopsChanges d changes reason

abbrev pub RefusesCommand : Option (List Change) → Kept → Kept → Reason → Type 0
RefusesCommand asked old new reason = StopsCommit old.document asked reason ⊎ RefusesChanges asked old new reason

abbrev pub RefusesCommit : List ℕ → Kept → Kept → Reason → Type 0
RefusesCommit bytes old new reason =
    ((reason ≡ NotUtf8) × (¬ (IsUtf8 bytes))) ⊎ RefusesCommand (commit_in old.document.grammar bytes) old new reason

-- why a reply is none of an accepted commit; other replies are none of a commit
abbrev pub RefusesReply : Reply → Reason → Type 0
RefusesReply (replies.Refused refusal) reason = reason ≡ of_refusal refusal
RefusesReply (replies.Changed ranges) reason = ⊥
RefusesReply reply reason = Unit {0}
