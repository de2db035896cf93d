-- What a contract sees of a token in an arena, and of a range of entries.
use Rattle.std.specs.Prelude.{◌≡◌, ℕ, ◌≤◌, ◌<◌, List, [], length, take, drop, Option, Some, None, slice_get}
use Rattle.rowan_green.specs.Leaf.{Leaf}
use Rattle.rowan_green.specs.Term.{Term}
use Rattle.rowan_green.specs.declared.utility_types.NodeOrToken.TheVariants.{Node, Token}
use Rattle.rowan_green.specs.declared.arena.Arena.{Arena}
use Rattle.rowan_green.specs.Arena.{IsSound, items_in, terms_at}

-- the leaf that a term is; one without text if it is none
abbrev pub leaf_or_empty : Option Term → Leaf
leaf_or_empty None = record { kind = 0; text = [] }
leaf_or_empty (Some (Node t)) = record { kind = 0; text = [] }
leaf_or_empty (Some (Token l)) = l

-- the leaf of the entry of this number
abbrev pub leaf_at : Arena → ℕ → Leaf
leaf_at a i = leaf_or_empty (slice_get (terms_at (items_in a)) i)

-- the entry of this number is a token of a sound arena
pub record IsTokenAt (a : Arena) (i : ℕ) : Type 0 where
  pub sound : IsSound a []
  pub within : i < length a.entries.items
  pub token : slice_get (terms_at (items_in a)) i ≡ Some (Token (leaf_at a i))

-- the terms of the entries from number `start` to before `end`
abbrev pub terms_between : Arena → ℕ → ℕ → List Term
terms_between a start end = drop start (take end (terms_at (items_in a)))

-- these numbers name a range of entries of a sound arena
pub record IsEntryRange (a : Arena) (start : ℕ) (end : ℕ) : Type 0 where
  pub sound : IsSound a []
  pub order : start ≤ end
  pub within : end ≤ length a.entries.items
