-- When creating a tree fails, and the error messages.
use Rattle.std.specs.Prelude.{◌≡◌, ℕ, ◌^◌, List, codes}
use Rattle.syntax_tree.specs.declared.error.TreeError.{TreeError}
use Rattle.syntax_tree.specs.declared.error.TreeError.TheVariants.{Spent, NoMemory}

-- `Spent` only if no tree number is left; `NoMemory` at any point
abbrev pub RefusesTree : ℕ → TreeError → Type 0
RefusesTree number Spent = number ≡ 2 ^ 32
RefusesTree number NoMemory = Unit {0}

abbrev pub message_of : TreeError → List ℕ
message_of Spent = codes "no tree number is left"
message_of NoMemory = codes "out of memory"
