-- When a call on cursors refuses, and what a refusal prints.
use Rattle.std.specs.Prelude.{◌≡◌, ℕ, List, codes, Option, Some, None, Result, MatchResult}
use Rattle.rowan.specs.Place.{Place}
use Rattle.rowan.specs.declared.error.CursorError.{CursorError}
use Rattle.rowan.specs.declared.error.CursorError.TheVariants.{NotFound, TooLong, NoMemory}

-- NotFound only where nothing was to be found, never TooLong; out of memory at any point
abbrev pub RefusesSearch : Option Place → CursorError → Type 0
RefusesSearch o NotFound = o ≡ None
RefusesSearch o TooLong = ⊥
RefusesSearch o NoMemory = Unit {0}

-- the node at the place that was to be found, or an error
abbrev pub FindsOrRefuses : {N : Type 0} → (N → Place) → Option Place → Result N CursorError → Type 0
FindsOrRefuses place o r = MatchResult r (λ n. o ≡ Some (place n)) (RefusesSearch o)

abbrev pub message_of : CursorError → List ℕ
message_of NotFound = codes "not found"
message_of TooLong = codes "too long"
message_of NoMemory = codes "out of memory"
