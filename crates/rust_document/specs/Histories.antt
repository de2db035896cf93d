-- Lists of edits and commits of one document, some of them refused.
use Rattle.std.specs.Prelude.{◌≡◌, ℕ, true, List, [], ◌∷◌, ◌++◌}
use Rattle.rowan_green.specs.Forest.{tree_text}
use Rattle.syntax_editor.specs.Editing.{Editing}
use Rattle.rust_document.specs.Edit.{can_edit, edited}
use Rattle.rust_document.specs.Laws.{Agree}
use Rattle.rust_document.specs.Open.{IsOpened}
use Rattle.rust_document.specs.Rewrite.{rewritten}
use Rattle.rust_document.specs.Step as step
use Rattle.rust_document.specs.Step.{State, verdict}

-- an edit of the bytes from `start` to just before `end`, or a commit of what an editor recorded
pub data Command : Type 0 where
  Edit : (start end : ℕ) → (put : List ℕ) → Command
  Commit : Editing → Command

-- a command with its outcome: accepted, and the new tree has a number, or refused
pub data Event : Type 0 where
  Accepted : Command → ℕ → Event
  Refused : Command → Event

-- the text that a command makes of a text
abbrev pub text_by : List ℕ → Command → List ℕ
text_by text (Edit start end put) = edited text start end put
text_by text (Commit e) = tree_text (rewritten e)

-- an opened text with all accepted changes applied
abbrev pub text_after : List ℕ → List Event → List ℕ
text_after text [] = text
text_after text (Accepted c number ∷ es) = text_after (text_by text c) es
text_after text (Refused c ∷ es) = text_after text es

-- a document after an accepted command
abbrev pub taken : State → Command → ℕ → State
taken d c number = record { edition = d.edition; grammar = d.grammar; text = text_by d.text c; number = number }

-- a document after a list of commands; a refused one changes nothing
abbrev pub after : State → List Event → State
after d [] = d
after d (Accepted c number ∷ es) = after (taken d c number) es
after d (Refused c ∷ es) = after d es

-- the command can be accepted
abbrev pub IsAcceptable : State → Command → Type 0
IsAcceptable d (Edit start end put) = (can_edit d.text start end ≡ true) × IsOpened (edited d.text start end put)
IsAcceptable d (Commit e) = verdict d e ≡ step.Accepted

-- Each command that was accepted could be.
abbrev pub IsHistory : State → List Event → Type 0
IsHistory d [] = Unit {0}
IsHistory d (Accepted c number ∷ es) = IsAcceptable d c × IsHistory (taken d c number) es
IsHistory d (Refused c ∷ es) = IsHistory d es

-- an opened text
abbrev pub opened : State → List ℕ → ℕ → State
opened d text number = record { edition = d.edition; grammar = d.grammar; text = text; number = number }

-- An edited document, whatever it kept, agrees with one that is opened on its text.
abbrev pub EditsAreOpenings : Type 0
EditsAreOpenings =
    (d : State) (start end : ℕ) (put : List ℕ) (number other : ℕ)
    → Agree (taken d (Edit start end put) number) (opened d (edited d.text start end put) other)

-- After any list of commands the text is the opened one with the accepted changes applied, and the document agrees with
-- one that is opened on that text.
pub record EndsInReading (d : State) (es : List Event) : Type 0 where
  pub text_is : (after d es).text ≡ text_after d.text es
  pub agrees : (number : ℕ) → Agree (after d es) (opened d (text_after d.text es) number)

abbrev pub HistoriesEndInReadings : Type 0
HistoriesEndInReadings = (d : State) (es : List Event) → IsHistory d es → EndsInReading d es

-- More commands make a longer history: so what holds call by call holds of all calls.
pub record GoesOn (d : State) (es fs : List Event) : Type 0 where
  pub same : after d (es ++ fs) ≡ after (after d es) fs
  pub history : IsHistory d (es ++ fs)

abbrev pub HistoriesGoOn : Type 0
HistoriesGoOn = (d : State) (es fs : List Event) → IsHistory d es → IsHistory (after d es) fs → GoesOn d es fs
