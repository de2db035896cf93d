-- What the fields of a cursor mean.
use Rattle.std.specs.Prelude.{◌≡◌, ℕ, ◌<◌, ◌^◌, [], Some}
use Rattle.rowan_green.specs.Forest.{Tree}
use Rattle.rowan_green.specs.Term.{Term}
use Rattle.rowan_green.specs.declared.utility_types.NodeOrToken.TheVariants.{Node}
use Rattle.rowan.specs.Place.{Place, below, term_at, start_of, end_of, depth_of}
use Rattle.rowan.specs.declared.cursor.NodeData.{NodeData}
use Rattle.rowan.specs.declared.cursor.Spot.{Spot}
use Rattle.rowan.specs.declared.cursor.Spot.TheVariants.{Root, Child}

-- a term stands at a place and starts at an offset; its text ends below 2^32
pub record Stands (p : Place) (e : Term) (offset : ℕ) : Type 0 where
  pub term : term_at p ≡ Some e
  pub start : offset ≡ start_of p
  pub fits : end_of p < 2 ^ 32

abbrev pub place_from : Tree → Spot → Place
place_from g Root = record { root = g; up = [] }
place_from g (Child p i) = below p i

abbrev pub place_of : NodeData → Place
place_of d = place_from d.green d.spot

-- the green node is at the cursor's place, at the cursor's offset, and at the cursor's depth
abbrev pub IsSound : NodeData → Type 0
IsSound d = Stands (place_of d) (Node d.green) d.offset × (d.depth ≡ depth_of (place_of d))
