-- What a builder keeps: an arena, if it has grown, and the entries without a parent yet.
use Rattle.std.specs.Prelude.{◌≡◌, List, [], ◌∷◌, length, reverse, Option, Some, None, Bool, true, false}
use Rattle.std.specs.declared.rc.Rc.{Rc}
use Rattle.std.specs.declared.alloc.Global.{Global}
use Rattle.rowan_green.specs.Forest.{Tree}
use Rattle.rowan_green.specs.Term.{Term}
use Rattle.rowan_green.specs.declared.utility_types.NodeOrToken.TheVariants.{Node}
use Rattle.rowan_green.specs.declared.arena.Entry.{Entry}
use Rattle.rowan_green.specs.declared.arena.Entry.TheVariants.{Short, Few, Long, Many}
use Rattle.rowan_green.specs.declared.arena.Arena.{Arena}
use Rattle.rowan_green.specs.declared.builder.OpenNode.{OpenNode}
use Rattle.rowan_green.specs.Arena.{IsGrowing, IsWhole, items_in, terms_at, terms_over}
use Rattle.rowan_green.specs.FlatNode.{IsLast}
use Rattle.rowan_green.specs.OpenNodes.{IsNested}

-- whether an entry is a node
abbrev pub is_node : Entry → Bool
is_node (Short n k s) = false
is_node (Few n k f) = true
is_node (Long k i) = false
is_node (Many k i) = true

-- the terms of the entries that are done
abbrev pub terms_done : Option (Rc Arena Global) → List Entry → List Term
terms_done None done = []
terms_done (Some shared) done = terms_over shared.value done

-- the terms of the arena's own entries
abbrev pub terms_kept : Option (Rc Arena Global) → List Term
terms_kept None = []
terms_kept (Some shared) = terms_at (items_in shared.value)

-- the arena grows by these entries, and all of its text is used; without an arena, nothing is done
abbrev pub IsFilled : Option (Rc Arena Global) → List Entry → Type 0
IsFilled None done = done ≡ []
IsFilled (Some shared) done = IsGrowing shared.value done × IsWhole shared.value

-- if one node is all that is done, it is also the last entry of the arena
abbrev pub IsRootedBy : List Term → List Term → Type 0
IsRootedBy done kept = (t : Tree) → done ≡ Node t ∷ [] → IsLast kept (Node t)

abbrev pub IsRooted : Option (Rc Arena Global) → List Entry → Type 0
IsRooted arena done = IsRootedBy (terms_done arena done) (terms_kept arena)

-- nothing is different, where these entries are done
pub record IsSame (old new : Option (Rc Arena Global)) (done : List Entry) : Type 0 where
  pub filled : IsFilled new done
  pub terms : terms_done new done ≡ terms_done old done
  pub rooted : IsRooted old done → IsRooted new done

-- what holds of a builder
pub record IsBuilder (os : List OpenNode) (arena : Option (Rc Arena Global)) (done : List Entry) : Type 0 where
  pub filled : IsFilled arena done
  pub nested : IsNested (reverse os) (length (terms_done arena done))
  pub root : os ≡ [] → IsRooted arena done
