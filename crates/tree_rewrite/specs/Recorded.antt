-- A recorded change and a planned change. Model of the code; only proofs use it.
use Rattle.std.specs.Prelude.{ℕ, ◌+◌, ◌-◌, ◌≤◌, List, map, Option, Some, None, option_map}
use Rattle.std.specs.Global.{Vec}
use Rattle.rowan.specs.Place.{index_of}
use Rattle.syntax_tree.specs.Element.{Way, Element}
use Rattle.syntax_tree.specs.Handle.{element_of}
use Rattle.tree_rewrite.specs.Change.{Change, insert, replace, KeepsRoot}
use Rattle.tree_rewrite.specs.declared.change.Change as declared
use Rattle.tree_rewrite.specs.declared.change.Change.TheVariants.{Insert, Replace}
use Rattle.tree_rewrite.specs.declared.target_tree.TargetTree.{TargetTree}
use Rattle.tree_rewrite.specs.declared.target_tree.TargetTree.TheVariants.{Tree, Payload}
use Rattle.tree_rewrite.specs.declared.tree_change.Target.{Target}
use Rattle.tree_rewrite.specs.declared.tree_change.Target.TheVariants.{Gap, Slots}

-- the change that inserts these elements at the target, or replaces the elements there by them
abbrev pub change_of : Target → List Element → Change
change_of (Gap p i) new = insert p.items i new
change_of (Slots first n single) new = replace first.items n new single

-- the up-path of a vector, if any
abbrev pub way_of : Option (Vec ℕ) → Option Way
way_of w = option_map (λ v. v.items) w

-- a target tree by the up-path of the node whose payload it is; none for the tree itself
abbrev pub target_of : TargetTree → Option Way
target_of Tree = None
target_of (Payload way) = Some way.now

-- the depth of a target tree whose up-path has this length, or of the tree itself
abbrev pub level_of : Option ℕ → ℕ
level_of None = 0
level_of (Some n) = n + 1

-- the change, with its elements named by up-paths
abbrev pub recorded : declared.Change → Change
recorded (Insert p new) = insert p.parent.place.up p.index (map element_of new.items)
recorded (Replace first last new single) = replace (element_of first).place.up (index_of (element_of last).place - index_of (element_of first).place) (map element_of new.items) single

-- the first replaced element is not after the last
abbrev pub IsOrdered : declared.Change → Type 0
IsOrdered (Insert p new) = Unit {0}
IsOrdered (Replace first last new single) = index_of (element_of first).place ≤ index_of (element_of last).place

-- if the change replaces the root, it replaces it by one node
abbrev pub KeepsOneRoot : declared.Change → Type 0
KeepsOneRoot c = KeepsRoot (recorded c)
