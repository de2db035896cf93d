-- The end of a climb towards a payload, and the rest of the up-path from there.
use Rattle.std.specs.Prelude.{◌≡◌, ℕ, [], ◌++◌, Option, Some, None, option_map}
use Rattle.syntax_tree.specs.Element.{Way, Element}
use Rattle.tree_rewrite.specs.Moved.{way_from_image}
use Rattle.tree_rewrite.specs.declared.climb.ClimbEnd.{ClimbEnd}
use Rattle.tree_rewrite.specs.declared.climb.ClimbEnd.TheVariants.{Payload, Root, Mapped}

-- the element is at this up-path of the tree with this number
pub record StandsAt (b : Element) (n : ℕ) (w : Way) : Type 0 where
  pub number : b.number ≡ n
  pub way : b.place.up ≡ w

-- an up-path that continues after these indices
abbrev pub after_numbers : Way → Option Way → Option Way
after_numbers v w = option_map (λ u. v ++ u) w

-- the rest of the up-path; `on` continues it from a mapped node
abbrev pub way_left : (Element → Option Way) → Element → ClimbEnd → Option Way
way_left on b Payload = Some []
way_left on b Root = None
way_left on b (Mapped o) = way_from_image on b o.now.number o.now.place.root o.now.place.up
