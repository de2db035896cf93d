-- When a token is not made, and what that prints.
use Rattle.std.specs.Prelude.{◌≡◌, ◌^◌, ℕ, List, codes}
use Rattle.rowan_green.specs.Term.{FitsToken}
use Rattle.syntax_tree.specs.declared.error.TreeError.{TreeError}
use Rattle.syntax_tree.specs.declared.error.TreeError.TheVariants as trees
use Rattle.syntax_editor.specs.declared.make_error.MakeError.{MakeError}
use Rattle.syntax_editor.specs.declared.make_error.MakeError.TheVariants.{NoMemory, NoTreeNumber, TooLong}

-- `TooLong` only if the text is; then `NoTreeNumber` only if no number is left; `NoMemory` at any point
abbrev pub RefusesMake : List ℕ → ℕ → MakeError → Type 0
RefusesMake text number NoMemory = Unit {0}
RefusesMake text number NoTreeNumber = FitsToken text × (number ≡ 2 ^ 32)
RefusesMake text number TooLong = FitsToken text → ⊥

abbrev pub make_message : MakeError → List ℕ
make_message NoMemory = codes "out of memory"
make_message NoTreeNumber = codes "no tree number is left"
make_message TooLong = codes "too long"

abbrev pub of_tree : TreeError → MakeError
of_tree trees.Spent = NoTreeNumber
of_tree trees.NoMemory = NoMemory
