-- A line as far as it was read.
use Rattle.std.specs.Prelude.{◌≡◌, ◌≤◌, ◌<◌, ℕ, Bool, true, false, List, length}

-- the front of a line, and what is kept of it: all of it, or nothing of one past the limit
abbrev pub IsFront : ℕ → List ℕ → List ℕ → Bool → Type 0
IsFront limit front kept true = limit < length front
IsFront limit front kept false = (kept ≡ front) × (length front ≤ limit)
