-- What a contract sees of a run: entries of an arena in a row, as a list of children.
use Rattle.std.specs.Prelude.{◌≡◌, ℕ, ◌+◌, ◌*◌, ◌≤◌, ◌^◌, List, [], ◌++◌, length}
use Rattle.rowan_green.specs.Term.{Term}
use Rattle.rowan_green.specs.declared.arena.Arena.{Arena}
use Rattle.rowan_green.specs.Arena.{IsSound, IsRow, items_in, terms_at, piece, row_start}

-- the terms of `count` entries, from number `first` on
abbrev pub run_terms : Arena → ℕ → ℕ → List Term
run_terms a first count = terms_at (piece (items_in a) first count)

-- these entries are there, and their texts lie in a row
pub record IsRun (a : Arena) (first : ℕ) (count : ℕ) : Type 0 where
  pub sound : IsSound a []
  pub within : first + count ≤ length a.entries.items
  pub row : IsRow (row_start (piece (items_in a) first count)) (piece (items_in a) first count)

-- a list of `count` terms may have this height: it can be halved `height` times
pub record HasHeight (count : ℕ) (height : ℕ) : Type 0 where
  pub many : 8 * 2 ^ height ≤ count
  pub few : count ≤ 16 * 2 ^ height

-- the list d is that of l and then of r, which are about as long and lower by one
pub record AreHalves (d : List Term × ℕ) (l : List Term × ℕ) (r : List Term × ℕ) : Type 0 where
  pub terms : d.0 ≡ l.0 ++ r.0
  pub left : HasHeight (length l.0) l.1
  pub right : HasHeight (length r.0) r.1
  pub left_height : d.1 ≡ l.1 + 1
  pub right_height : d.1 ≡ r.1 + 1
