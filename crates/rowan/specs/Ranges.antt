-- Elements by ranges of the text.
use Rattle.std.specs.Prelude.{◌≡◌, ℕ, Bool, ◌&&◌, nat_le, Option, Some, None}
use Rattle.std.specs.List.{filter}
use Rattle.rowan_green.specs.declared.utility_types.NodeOrToken.TheVariants.{Node, Token}
use Rattle.rowan.specs.Place.{Place, start_of, end_of}
use Rattle.rowan.specs.Around.{Cursor, place_in, children, first}

-- whether the range of an element contains the range from one offset to another
abbrev pub holds : ℕ → ℕ → Cursor → Bool
holds a b c = nat_le (start_of (place_in c)) a && nat_le b (end_of (place_in c))

-- the first child whose range contains it
abbrev pub child_at_range : ℕ → ℕ → Place → Option Cursor
child_at_range a b p = first (filter (holds a b) (children p))

-- from a place one comes to an element by going down, each time to the first child whose range contains it, as long as there is one
pub data LeadsTo (a b : ℕ) : Place → Cursor → Type 0 where
  here : {p : Place} → child_at_range a b p ≡ None → LeadsTo a b p (Node p)
  token : {p q : Place} → child_at_range a b p ≡ Some (Token q) → LeadsTo a b p (Token q)
  down : {p q : Place} {c : Cursor} → child_at_range a b p ≡ Some (Node q) → LeadsTo a b q c → LeadsTo a b p c
