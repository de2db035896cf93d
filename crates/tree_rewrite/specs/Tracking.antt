-- Changed ranges, piece by piece. Model of the code; only proofs use it.
use Rattle.std.specs.Prelude.{◌≡◌, ℕ, ◌+◌, List, [], ◌∷◌, length, map, reverse, Option, Some, None, Bool, true, false}
use Rattle.rowan.specs.Place.{text_at}
use Rattle.syntax_tree.specs.Handle.{element_of}
use Rattle.tree_rewrite.specs.Marked.{Marked, with_put}
use Rattle.tree_rewrite.specs.Pieces.{Around, outside, in_node, in_group, Stand}
use Rattle.tree_rewrite.specs.Changed.{text_len, changed_at, bounds}
use Rattle.tree_rewrite.specs.declared.piece.Piece.{Piece}
use Rattle.tree_rewrite.specs.declared.piece.Piece.TheVariants.{Whole, Open, Group, Close}
use Rattle.tree_rewrite.specs.declared.changed.Entered.{Entered}
use Rattle.tree_rewrite.specs.declared.changed.Tracker.{Tracker}

abbrev pub or_told : Option Bool → Bool → Bool
or_told None b = b
or_told (Some c) b = c

-- elements directly in a group are inserted if the outermost such group belongs to a change of the tree itself; elsewhere there is no flag
abbrev pub told_in : Around → Option Bool
told_in outside = None
told_in (in_node d e a) = None
told_in (in_group d b a) = Some (or_told (told_in a) b)

abbrev pub is_put : Option Bool → Bool
is_put None = false
is_put (Some b) = b

abbrev pub as_told : Option Bool → Marked → Marked
as_told None m = m
as_told (Some b) m = with_put b m

-- the number of bytes before the list
abbrev pub before_in : Around → ℕ
before_in outside = 0
before_in (in_node d e a) = before_in a + text_len d
before_in (in_group d b a) = before_in a + text_len d

-- the ranges in a list with these open nodes and groups around it
abbrev pub changed_in : Marked → Around → List (ℕ × ℕ)
changed_in d a = changed_at (as_told (told_in a) d) (before_in a)

-- this is entered: a node, or a group, with the state before it
abbrev pub IsEntry : Entered → Bool → Tracker → Type 0
IsEntry g is_node t = (g.is_node ≡ is_node) × (g.start ≡ t.offset) × (g.told ≡ t.told) × (g.before.items ≡ t.ranges.items)

-- the open nodes and groups, innermost first, with the ranges before them
abbrev pub IsEntered : List Entered → Around → Type 0
IsEntered [] outside = Unit {0}
IsEntered [] (in_node d e a) = ⊥
IsEntered [] (in_group d b a) = ⊥
IsEntered (g ∷ gs) outside = ⊥
IsEntered (g ∷ gs) (in_node d e a) =
    (g.is_node ≡ true) × (g.start ≡ before_in a + text_len d) × (g.told ≡ told_in a) × (map bounds g.before.items ≡ changed_in d a) × IsEntered gs a
IsEntered (g ∷ gs) (in_group d b a) =
    (g.is_node ≡ false) × (g.told ≡ told_in a) × (map bounds g.before.items ≡ changed_in d a) × IsEntered gs a

-- the ranges up to this point, and the open nodes and groups around it
pub record Tracks (t : Tracker) (s : Stand) : Type 0 where
  pub ranges : map bounds t.ranges.items ≡ changed_in s.done s.around
  pub offset : t.offset ≡ before_in s.around + text_len s.done
  pub told : t.told ≡ told_in s.around
  pub around : IsEntered (reverse t.around.items) s.around

-- the number of bytes of a piece
abbrev pub bytes_by : Piece → ℕ
bytes_by (Whole e) = length (text_at (element_of e).place)
bytes_by (Open e) = 0
bytes_by (Group n) = 0
bytes_by Close = 0

abbrev pub all_bytes : List Piece → ℕ
all_bytes [] = 0
all_bytes (p ∷ ps) = bytes_by p + all_bytes ps
