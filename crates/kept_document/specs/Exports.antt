-- What the exports make of a handle.
use Rattle.std.specs.Prelude.{◌≡◌, ℕ, ◌+◌, false, true, List, Option, Some, None, chars}
use Rattle.std.specs.Str.{IsUtf8}
use Rattle.rust_document.specs.Edit.{can_edit}
use Rattle.rust_document.specs.Step.{present}
use Rattle.renamer.specs.Renamed.{renamed_text}
use Rattle.renamer.specs.Verdict.{IsRenamed}
use Rattle.kept_document.specs.Calls.{IsReadable, edited_document}
use Rattle.kept_document.specs.Commits.{IsCommitted, RefusesCommit, commit_in}
use Rattle.kept_document.specs.Depth.{is_deep_renaming}
use Rattle.kept_document.specs.Reasons.{code_of}
use Rattle.kept_document.specs.Renamings.{is_identifier}
use Rattle.kept_document.specs.declared.kept.Kept.{Kept}
use Rattle.kept_document.specs.declared.reason.Reason.{Reason}
use Rattle.kept_document.specs.declared.reason.Reason.TheVariants.{IsOpen, NotOpen}

-- The code is that of a reason that holds.
pub record HasReason (Refuses : Reason → Type 0) (code : ℕ) : Type 0 where
  pub reason : Reason
  pub is : code ≡ code_of reason
  pub holds : Refuses reason

-- a call on a handle that is to be closed
abbrev pub RefusesClosed : Option Kept → (Reason → Type 0) → Reason → Type 0
RefusesClosed None Refuses reason = Refuses reason
RefusesClosed (Some kept) Refuses reason = reason ≡ IsOpen

-- a call on a handle that is to be open
abbrev pub RefusesOpen : Option Kept → (Kept → Reason → Type 0) → Reason → Type 0
RefusesOpen None Refuses reason = reason ≡ NotOpen
RefusesOpen (Some kept) Refuses reason = Refuses kept reason

-- The handle is open, and its document is such.
abbrev pub Holds : Option Kept → (Kept → Type 0) → Type 0
Holds None Is = ⊥
Holds (Some kept) Is = Is kept

-- The handle is open before and after, and its document has become such.
abbrev pub Turns : Option Kept → Option Kept → (Kept → Kept → Type 0) → Type 0
Turns None new Becomes = ⊥
Turns (Some old) None Becomes = ⊥
Turns (Some old) (Some new) Becomes = Becomes old new

-- some bytes of the text were replaced, and a tree number was taken
pub record IsEdited (start end : ℕ) (text : List ℕ) (old new : Kept) : Type 0 where
  pub allowed : can_edit old.document.text start end ≡ true
  pub is_text : IsUtf8 text
  pub readable : IsReadable new.document.edition new.document.text
  pub document : new.document ≡ edited_document old.document start end text old.ids
  pub next : new.ids ≡ old.ids + 1
  pub changed : new.changed ≡ old.changed

-- a commit was accepted
abbrev pub CommitsTo : List ℕ → Kept → Kept → Type 0
CommitsTo command old new = IsUtf8 command × IsCommitted (commit_in old.document.grammar command) old new

-- a commit was refused; the handle is as open as before
abbrev pub IsUncommitted : Option Kept → Option Kept → List ℕ → ℕ → Type 0
IsUncommitted None new command code = code ≡ code_of NotOpen
IsUncommitted (Some old) None command code = ⊥
IsUncommitted (Some old) (Some new) command code = HasReason (RefusesCommit command old new) code

-- The document is as before, and so are the ranges of the last commit; tree numbers may be used up.
pub record IsKept (old new : Kept) : Type 0 where
  pub document : new.document ≡ old.document
  pub changed : new.changed ≡ old.changed

abbrev pub KeepsText : Option Kept → Option Kept → Type 0
KeepsText None None = Unit {0}
KeepsText None (Some new) = ⊥
KeepsText (Some old) None = ⊥
KeepsText (Some old) (Some new) = IsKept old new

-- each identifier `old` is renamed to `new`
pub record RenamesTo (name new_name : List ℕ) (old new : Kept) : Type 0 where
  pub is_text : IsUtf8 name
  pub text : new.document.text ≡ renamed_text name new_name (present old.document)
  pub renamed : IsRenamed old.document name new_name
  pub edition : new.document.edition ≡ old.document.edition
  pub grammar : new.document.grammar ≡ old.document.grammar
  pub flat : is_deep_renaming old.document name new_name ≡ false
  pub identifier : is_identifier old.document.edition (chars new_name) ≡ true
  pub changed : new.changed ≡ old.changed
