-- What iterators have left.
use Rattle.std.specs.Prelude.{ℕ, zero, suc, ◌+◌, List, [], ◌∷◌, ◌++◌, Option, Some, None, Bool, true, false}
use Rattle.rowan_green.specs.Forest.{Tree}
use Rattle.rowan_green.specs.declared.utility_types.NodeOrToken.TheVariants.{Node}
use Rattle.rowan.specs.Place.{Place}
use Rattle.rowan.specs.Around.{Cursor, place_in, children_from, siblings, sibling_nodes}
use Rattle.rowan.specs.declared.utility_types.Direction.{Direction}
use Rattle.rowan.specs.Walk.{Event, walk_from}
use Rattle.rowan.specs.declared.utility_types.WalkEvent.TheVariants.{Enter, Leave}
use Rattle.rowan.specs.declared.walk.Step.{Step}

-- ---- a walk at a step: an element that is entered or left next, and its depth below the start of the walk

-- what is left once an element is left
abbrev pub left_above : Tree → List ℕ → ℕ → List Event
left_above root [] depth = []
left_above root (i ∷ up) zero = []
left_above root (i ∷ up) (suc depth) = walk_from (record { root = root; up = up }) (i + 1) ++ Leave (Node (record { root = root; up = up })) ∷ left_above root up depth

abbrev pub left_leaving : Cursor → ℕ → List Event
left_leaving c depth = Leave c ∷ left_above (place_in c).root (place_in c).up depth

abbrev pub left_entering : Cursor → ℕ → List Event
left_entering c depth = Enter c ∷ (walk_from (place_in c) 0 ++ left_leaving c depth)

abbrev pub left_at : Bool → Cursor → ℕ → List Event
left_at true c depth = left_leaving c depth
left_at false c depth = left_entering c depth

abbrev pub event_of : Bool → Cursor → Event
event_of true c = Leave c
event_of false c = Enter c

abbrev pub left_by : Option Step → List Event
left_by None = []
left_by (Some s) = left_at s.leaving s.element s.depth

-- ---- children from a number on, unless the iterator has ended

abbrev pub children_left : Bool → Place → ℕ → List Cursor
children_left true p i = []
children_left false p i = children_from p i

-- ---- an element, if there is one, and those that follow it

abbrev pub siblings_left : Direction → Option Cursor → List Cursor
siblings_left d None = []
siblings_left d (Some c) = siblings d c

abbrev pub sibling_nodes_left : Direction → Option Place → List Place
sibling_nodes_left d None = []
sibling_nodes_left d (Some p) = sibling_nodes d p
