-- What the calls on a document make of it, and when they change nothing.
use Rattle.std.specs.Prelude.{◌≡◌, ◌<◌, ◌≤◌, ◌^◌, ℕ, false, true, List, [], ◌++◌, drop, length, chars, Option, Some, None}
use Rattle.std.specs.Str.{IsUtf8}
use Rattle.parser_input.specs.declared.edition.Edition.{Edition}
use Rattle.ra_parser.specs.declared.grammar.Grammar.{Grammar}
use Rattle.rust_document.specs.Edit.{can_edit, edited}
use Rattle.rust_document.specs.Open.{IsOpened}
use Rattle.rust_document.specs.Step.{MAX_TEXT, State}
use Rattle.text_levels.specs.Levels.{LEVELS, levels}
use Rattle.kept_document.specs.declared.kept.Kept.{Kept}
use Rattle.kept_document.specs.declared.reason.Reason.{Reason}
use Rattle.kept_document.specs.declared.reason.Reason.TheVariants.{NotUtf8, NoMemory, NoSuch, TooLong, Range, NoNumber, TooDeep}

-- within the limits of length and of levels
pub record IsReadable (edition : Edition) (text : List ℕ) : Type 0 where
  pub fits : IsOpened text
  pub flat : levels edition (chars text) ≤ LEVELS

-- ---- opening

-- the first case that fits of a text: not UTF-8; too long; too deep. Out of memory comes at any point.
abbrev pub RefusesText : Edition → List ℕ → Reason → Type 0
RefusesText edition text NotUtf8 = ¬ (IsUtf8 text)
RefusesText edition text TooLong = IsUtf8 text × (MAX_TEXT < length text)
RefusesText edition text TooDeep = IsUtf8 text × IsOpened text × (LEVELS < levels edition (chars text))
RefusesText edition text NoMemory = Unit {0}
RefusesText edition text reason = ⊥

-- a text is opened by the edition and the grammar of two numbers, if there are such
abbrev pub RefusesOpening : Option Edition → Option Grammar → List ℕ → Reason → Type 0
RefusesOpening None grammar text reason = reason ≡ NoSuch
RefusesOpening (Some edition) None text reason = reason ≡ NoSuch
RefusesOpening (Some edition) (Some grammar) text reason = RefusesText edition text reason

-- the document of a text that was opened: its tree has the first number, and the next tree gets the second
pub record IsFresh (edition : Option Edition) (grammar : Option Grammar) (text : List ℕ) (kept : Kept) : Type 0 where
  pub edition_is : edition ≡ Some kept.document.edition
  pub grammar_is : grammar ≡ Some kept.document.grammar
  pub text_is : kept.document.text ≡ text
  pub is_text : IsUtf8 text
  pub number_is : kept.document.number ≡ 1
  pub next_is : kept.ids ≡ 2
  pub unchanged : kept.changed.items ≡ []
  pub readable : IsReadable kept.document.edition text

-- ---- edits

-- when an edit is refused before the new text is read
abbrev pub IsUnedited : List ℕ → Reason → Type 0
IsUnedited text TooLong = MAX_TEXT < length text
IsUnedited text NoMemory = Unit {0}
IsUnedited text reason = ⊥

-- the document with some bytes of its text replaced
abbrev pub edited_document : State → ℕ → ℕ → List ℕ → ℕ → State
edited_document d start end text number =
    record { edition = d.edition; grammar = d.grammar; text = edited d.text start end text; number = number }

-- the first case that fits of an edit: not UTF-8; no such range; too long; too deep; no tree number left. Out of memory comes at
-- any point.
abbrev pub RefusesEdit : State → ℕ → ℕ → ℕ → List ℕ → Reason → Type 0
RefusesEdit d next start end text NotUtf8 = ¬ (IsUtf8 text)
RefusesEdit d next start end text Range = IsUtf8 text × (can_edit d.text start end ≡ false)
RefusesEdit d next start end text TooLong = IsUtf8 text × (can_edit d.text start end ≡ true) × (MAX_TEXT < length (edited d.text start end text))
RefusesEdit d next start end text TooDeep =
    IsUtf8 text × (can_edit d.text start end ≡ true) × IsOpened (edited d.text start end text)
    × (LEVELS < levels d.edition (chars (edited d.text start end text)))
RefusesEdit d next start end text NoNumber =
    IsUtf8 text × (can_edit d.text start end ≡ true) × IsReadable d.edition (edited d.text start end text) × (next ≡ 2 ^ 32)
RefusesEdit d next start end text NoMemory = Unit {0}
RefusesEdit d next start end text reason = ⊥
