-- Calls that record, one after another.
use Rattle.std.specs.Prelude.{ℕ, nat_eq, List, [], ◌∷◌, Option, Some, None, Bool, false, ◌&&◌, not, if◌then◌else◌}
use Rattle.syntax_tree.specs.Element.{Way, same_way, Element}
use Rattle.syntax_editor.specs.Editing.{Editing, with_changes}
use Rattle.syntax_editor.specs.Recording.{Recording, Foreign, BadRange, BadTarget, Recorded, inserting, replacing, replacing_many, replacing_all, deleting_all}

-- a call, with its arguments
pub data Call : Type 0 where
  -- these come into a gap
  insertion : (parent : Element) → (index : ℕ) → (new : List Element) → Call
  -- an element becomes one, or none: it is deleted
  replacement : (old : Element) → (new : List Element) → Call
  -- an element becomes as many as there are
  replacement_by_many : (old : Element) → (new : List Element) → Call
  -- a range of siblings, by its ends, becomes these
  row_replacement : (first : Element) → (last : Element) → (new : List Element) → Call
  -- a range of siblings, by its ends, is deleted
  row_deletion : (first : Element) → (last : Element) → Call

-- the result of a call on an editor
abbrev pub becomes : Editing → Call → Recording
becomes e (insertion p i new) = inserting e p i new
becomes e (replacement old new) = replacing e old new
becomes e (replacement_by_many old new) = replacing_many e old new
becomes e (row_replacement first last new) = replacing_all e first last new
becomes e (row_deletion first last) = deleting_all e first last

-- whether it is refused, and why; without the changes
abbrev pub verdict : Recording → Recording
verdict Foreign = Foreign
verdict BadRange = BadRange
verdict BadTarget = BadTarget
verdict (Recorded cs) = Recorded []

-- the editor after a call; one that is refused changes nothing
abbrev pub after_call : Editing → Recording → Editing
after_call e Foreign = e
after_call e BadRange = e
after_call e BadTarget = e
after_call e (Recorded cs) = with_changes e cs

-- the editor after all of these, the first of them first
abbrev pub after_calls : Editing → List Call → Editing
after_calls e [] = e
after_calls e (a ∷ more) = after_calls (after_call e (becomes e a)) more

-- ---- what two calls have in common

-- the gap that a call puts into, if it puts into one
abbrev pub gap_of : Call → Option (Way × ℕ)
gap_of (insertion p i new) = Some (p.place.up, i)
gap_of (replacement old new) = None
gap_of (replacement_by_many old new) = None
gap_of (row_replacement first last new) = None
gap_of (row_deletion first last) = None

-- the element that a call names alone, if it does; where both ends of a row that is deleted are one element, that
abbrev pub alone_of : Call → Option Way
alone_of (insertion p i new) = None
alone_of (replacement old new) = Some old.place.up
alone_of (replacement_by_many old new) = None
alone_of (row_replacement first last new) = None
alone_of (row_deletion first last) = if same_way first.place.up last.place.up then Some first.place.up else None

abbrev pub is_one_gap : Option (Way × ℕ) → Option (Way × ℕ) → Bool
is_one_gap None h = false
is_one_gap (Some g) None = false
is_one_gap (Some g) (Some h) = same_way g.0 h.0 && nat_eq g.1 h.1

abbrev pub is_one_way : Option Way → Option Way → Bool
is_one_way None v = false
is_one_way (Some w) None = false
is_one_way (Some w) (Some v) = same_way w v

-- two calls put into different gaps, if both put into one, and name different elements alone, if both name one
abbrev pub are_apart : Call → Call → Bool
are_apart a b = not (is_one_gap (gap_of a) (gap_of b)) && not (is_one_way (alone_of a) (alone_of b))
