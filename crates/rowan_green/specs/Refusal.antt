-- When a call that makes a green value refuses, and what a refusal prints.
use Rattle.std.specs.Prelude.{ℕ, List, codes}
use Rattle.rowan_green.specs.declared.error.GreenError.{GreenError}
use Rattle.rowan_green.specs.declared.error.GreenError.TheVariants.{TooLong, Unbalanced, NoMemory}

-- TooLong only where the value does not fit, never Unbalanced; out of memory at any point
abbrev pub RefusesUnless : Type 0 → GreenError → Type 0
RefusesUnless Fits TooLong = Fits → ⊥
RefusesUnless Fits Unbalanced = ⊥
RefusesUnless Fits NoMemory = Unit {0}

abbrev pub message_of : GreenError → List ℕ
message_of TooLong = codes "too long"
message_of Unbalanced = codes "unbalanced"
message_of NoMemory = codes "out of memory"
