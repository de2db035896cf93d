-- When a text is opened, and what a refusal prints.
use Rattle.std.specs.Prelude.{◌≡◌, ◌<◌, ◌≤◌, ◌^◌, ℕ, List, length, codes}
use Rattle.rust_document.specs.Step.{MAX_TEXT}
use Rattle.rust_document.specs.declared.error.OpenError.{OpenError}
use Rattle.rust_document.specs.declared.error.OpenError.TheVariants.{TooLong, NoTreeNumber, NoMemory}
use Rattle.syntax_tree.specs.declared.error.TreeError.{TreeError}
use Rattle.syntax_tree.specs.declared.error.TreeError.TheVariants as trees

-- the text is within the limit
abbrev pub IsOpened : List ℕ → Type 0
IsOpened text = length text ≤ MAX_TEXT

-- The first case that fits: too long; no tree number left. Out of memory comes at any point.
abbrev pub RefusesOpen : List ℕ → ℕ → OpenError → Type 0
RefusesOpen text number TooLong = MAX_TEXT < length text
RefusesOpen text number NoTreeNumber = IsOpened text × (number ≡ 2 ^ 32)
RefusesOpen text number NoMemory = Unit {0}

abbrev pub message_of : OpenError → List ℕ
message_of TooLong = codes "too long"
message_of NoTreeNumber = codes "no tree number is left"
message_of NoMemory = codes "out of memory"

-- a tree that could not be made
abbrev pub open_error_of : TreeError → OpenError
open_error_of trees.Spent = NoTreeNumber
open_error_of trees.NoMemory = NoMemory
