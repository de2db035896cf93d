-- The result of a call that records.
use Rattle.std.specs.Prelude.{ℕ, ◌-◌, List, [], ◌∷◌, ◌++◌, Bool, true, false, ◌&&◌, not, nat_eq, nat_le, if◌then◌else◌}
use Rattle.std.specs.List.{list_any}
use Rattle.rowan.specs.Place.{index_of, term_by}
use Rattle.syntax_tree.specs.Element.{Way, same_way, Element, element_at, term_of, is_node}
use Rattle.tree_rewrite.specs.Change.{Change, insert, replace}
use Rattle.tree_rewrite.specs.Moved.{same_kind}
use Rattle.tree_rewrite.specs.Rewrite.{payload_of}
use Rattle.syntax_editor.specs.Editing.{Editing}

-- ---- what is named

-- the element's path leads in the edited tree to an element of its kind
abbrev pub is_target : Element → Element → Bool
is_target top x = nat_eq x.number top.number && same_kind (term_by top.place.root x.place.up) (term_of x)

-- the element before the gap with this index; the node itself if that is the first gap
abbrev pub anchor : Element → ℕ → Element
anchor p i = if nat_eq i 0 then p else element_at p.number p.place.root ((i - 1) ∷ p.place.up)

-- the gap is in the edited tree
abbrev pub is_gap : Element → Element → ℕ → Bool
is_gap top p i = is_target top (anchor p i) && is_node (term_by top.place.root p.place.up)

abbrev pub is_root : Way → Bool
is_root [] = true
is_root (i ∷ w) = false

-- children of one parent, the second not before the first
abbrev pub are_in_order : Way → Way → Bool
are_in_order [] w = false
are_in_order (i ∷ p) [] = false
are_in_order (i ∷ p) (j ∷ q) = same_way p q && nat_le i j

-- these are one node
abbrev pub is_one_node : List Element → Bool
is_one_node [] = false
is_one_node (e ∷ []) = is_node (term_of e)
is_one_node (e ∷ (d ∷ es)) = false

-- ---- changes of an element that was named alone

abbrev pub is_empty : List Element → Bool
is_empty [] = true
is_empty (e ∷ es) = false

-- the change is one of the element there, named alone
abbrev pub is_single_at : Way → Change → Bool
is_single_at w (insert p i new) = false
is_single_at w (replace first n new single) = single && same_way first w

-- the change deletes the element there, named alone
abbrev pub is_deletion_at : Way → Change → Bool
is_deletion_at w c = is_single_at w c && is_empty (payload_of c)

-- a change that replaces an earlier one; a deletion stays
abbrev pub over : Change → Change → Change
over old new = if is_empty (payload_of old) then old else new

-- the changes with one more, of an element named alone: it replaces the first that is one of that element, else it is appended
abbrev pub with_single : List Change → Way → List Element → List Change
with_single [] w new = replace w 0 new true ∷ []
with_single (c ∷ cs) w new = if is_single_at w c then over c (replace w 0 new true) ∷ cs else c ∷ with_single cs w new

-- ---- the result of a call: the first case that fits

pub data Recording : Type 0 where
  -- an element or a gap is not one of the edited tree
  Foreign : Recording
  -- the ends are not children of one parent in order
  BadRange : Recording
  -- the root is deleted, or replaced by something else than one node named alone
  BadTarget : Recording
  -- these are the changes afterwards
  Recorded : List Change → Recording

-- all changes, and after them one more
abbrev pub and_then : Editing → Change → Recording
and_then e c = Recorded (e.changes ++ c ∷ [])

abbrev pub inserting : Editing → Element → ℕ → List Element → Recording
inserting e p i new = if is_gap e.top p i then and_then e (insert p.place.up i new) else Foreign

-- an element is replaced by one, or by none: deleted
abbrev pub replacing : Editing → Element → List Element → Recording
replacing e old new =
    if not (is_target e.top old) then Foreign
    else if is_root old.place.up && not (is_one_node new) then BadTarget
    else Recorded (with_single e.changes old.place.up new)

-- an element is replaced by as many as there are
abbrev pub replacing_many : Editing → Element → List Element → Recording
replacing_many e old new =
    if not (is_target e.top old) then Foreign
    else if is_root old.place.up then BadTarget
    else and_then e (replace old.place.up 0 new false)

-- a range of siblings, by its ends, becomes these
abbrev pub row_becomes : Element → Element → List Element → Change
row_becomes first last new = replace first.place.up (index_of last.place - index_of first.place) new false

-- a range of siblings by its ends; if both are one element, that alone
abbrev pub ranging : Editing → Element → Element → List Element → Recording → Recording
ranging e first last new alone =
    if not (is_target e.top first && is_target e.top last) then Foreign
    else if same_way first.place.up last.place.up then alone
    else if are_in_order first.place.up last.place.up
    then and_then e (row_becomes first last new)
    else BadRange

abbrev pub replacing_all : Editing → Element → Element → List Element → Recording
replacing_all e first last new = ranging e first last new (replacing_many e first new)

abbrev pub deleting_all : Editing → Element → Element → Recording
deleting_all e first last = ranging e first last [] (replacing e first [])

-- a deletion of just that element is recorded
abbrev pub is_deleted : Editing → Element → Bool
is_deleted e x = is_target e.top x && list_any (is_deletion_at x.place.up) e.changes
