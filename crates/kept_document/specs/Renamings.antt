-- Renamings in a kept document.
use Rattle.std.specs.Prelude.{◌≡◌, ◌⊎◌, ℕ, ◌==◌, Bool, false, true, List, Option, Some, None, chars}
use Rattle.std.specs.Str.{IsUtf8}
use Rattle.parser_input.specs.Kinds.{IDENT}
use Rattle.parser_input.specs.Lexed.{Lexed}
use Rattle.parser_input.specs.Single.{single}
use Rattle.parser_input.specs.declared.edition.Edition.{Edition}
use Rattle.rust_document.specs.Step.{State}
use Rattle.renamer.specs.Verdict.{RefusesRename}
use Rattle.renamer.specs.declared.RenameError.{RenameError}
use Rattle.kept_document.specs.Depth.{is_deep_renaming}
use Rattle.kept_document.specs.Reasons.{of_rename}
use Rattle.kept_document.specs.declared.reason.Reason.{Reason}
use Rattle.kept_document.specs.declared.reason.Reason.TheVariants.{NotUtf8, NoCommand, NoMemory, TooDeep}

abbrev pub is_identifier_leaf : Option Lexed → Bool
is_identifier_leaf None = false
is_identifier_leaf (Some l) = l.leaf.kind == IDENT

-- a text that is one identifier
abbrev pub is_identifier : Edition → List ℕ → Bool
is_identifier edition text = is_identifier_leaf (single edition text)

-- a renaming was refused
pub record IsUnrenamed (d : State) (next : ℕ) (old new : List ℕ) (reason : Reason) : Type 0 where
  pub error : RenameError
  pub is : reason ≡ of_rename error
  pub holds : RefusesRename d old new next error

-- The new text is too deep. Out of memory comes at any point.
abbrev pub StopsRenaming : State → (old new : List ℕ) → Reason → Type 0
StopsRenaming d old new reason = (reason ≡ NoMemory) ⊎ ((reason ≡ TooDeep) × (is_deep_renaming d old new ≡ true))

-- a name that is not UTF-8, then a new name that is no identifier, then too deep a text; else the error of the renaming
abbrev pub RefusesRenaming : State → ℕ → (old new : List ℕ) → Reason → Type 0
RefusesRenaming d next old new reason =
    ((reason ≡ NotUtf8) × ((¬ (IsUtf8 old)) ⊎ (¬ (IsUtf8 new))))
    ⊎ (((reason ≡ NoCommand) × (is_identifier d.edition (chars new) ≡ false)) ⊎ (StopsRenaming d old new reason ⊎ IsUnrenamed d next old new reason))
