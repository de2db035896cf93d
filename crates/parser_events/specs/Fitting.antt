-- Whether one step fits the leaves from a place on, and where it leads.
use Rattle.std.specs.Prelude.{◌≡◌, ◌≤◌, ℕ, false, List, ◌∷◌, drop, length}
use Rattle.parser_input.specs.Lexed.{Lexed, leaves_of}
use Rattle.parser_events.specs.Fits.{covers}
use Rattle.parser_events.specs.Steps.{Step}

-- From this leaf on the step fits, and the steps after it go on from that one.
pub record Leads (ls : List Lexed) (step : Step) (start next : ℕ) : Type 0 where
  pub within : next ≤ length ls
  pub rest : (ss : List Step) → covers (step ∷ ss) (drop start (leaves_of ls)) ≡ covers ss (drop next (leaves_of ls))

-- From this leaf on the step does not fit, whatever stands after it.
abbrev pub Misfits : List Lexed → Step → ℕ → Type 0
Misfits ls step start = (ss : List Step) → covers (step ∷ ss) (drop start (leaves_of ls)) ≡ false
