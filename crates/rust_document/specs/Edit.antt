-- An edit of a text: some of its bytes are replaced.
use Rattle.std.specs.Prelude.{◌≡◌, ◌<◌, ◌^◌, ℕ, zero, suc, Bool, true, false, ◌&&◌, nat_le, List, [], ◌∷◌, ◌++◌, take, drop, length, codes}
use Rattle.std.specs.Fmt.{is_char_start}
use Rattle.syntax_tree.specs.declared.error.TreeError.{TreeError}
use Rattle.syntax_tree.specs.declared.error.TreeError.TheVariants as trees
use Rattle.rust_document.specs.Open.{IsOpened}
use Rattle.rust_document.specs.Step.{MAX_TEXT}
use Rattle.rust_document.specs.declared.error.EditError.{EditError}
use Rattle.rust_document.specs.declared.error.EditError.TheVariants.{TooLong, NoTreeNumber, NoMemory}

-- a text whose bytes from `start` to just before `end` are replaced by other bytes
abbrev pub edited : List ℕ → ℕ → ℕ → List ℕ → List ℕ
edited text start end put = take start text ++ put ++ drop end text

-- At this offset in bytes a character starts, or the text ends.
unfoldable pub is_boundary : ℕ → List ℕ → Bool
is_boundary zero [] = true
is_boundary zero (b ∷ bs) = is_char_start b
is_boundary (suc i) [] = false
is_boundary (suc i) (b ∷ bs) = is_boundary i bs

-- a range that is in order, and whose ends are boundaries of characters in the text
abbrev pub can_edit : List ℕ → ℕ → ℕ → Bool
can_edit text start end = nat_le start end && is_boundary start text && is_boundary end text

-- The first case that fits: the new text is too long; no tree number is left. Out of memory comes at any point.
abbrev pub RefusesEdit : List ℕ → ℕ → EditError → Type 0
RefusesEdit text number TooLong = MAX_TEXT < length text
RefusesEdit text number NoTreeNumber = IsOpened text × (number ≡ 2 ^ 32)
RefusesEdit text number NoMemory = Unit {0}

-- when an edit is refused before a number is asked for
abbrev pub IsUnedited : List ℕ → EditError → Type 0
IsUnedited text TooLong = MAX_TEXT < length text
IsUnedited text NoTreeNumber = ⊥
IsUnedited text NoMemory = Unit {0}

abbrev pub edit_message_of : EditError → List ℕ
edit_message_of TooLong = codes "too long"
edit_message_of NoTreeNumber = codes "no tree number is left"
edit_message_of NoMemory = codes "out of memory"

-- a tree that could not be made
abbrev pub edit_error_of : TreeError → EditError
edit_error_of trees.Spent = NoTreeNumber
edit_error_of trees.NoMemory = NoMemory
