-- An insertion among insertions.
use Rattle.std.proofs.Common.{◌≡◌, ℕ, Bool, true, false, List, [], ◌∷◌, ◌++◌, All, if◌then◌else◌, ap, subst}
use Rattle.std.proofs.lemmas.List.Elements.{All-append, All-cons, All-nil}
use Rattle.tree_rewrite.specs.Change.{Change, insert}
use Rattle.syntax_tree.specs.Element.{Element}
use Rattle.syntax_editor.specs.Editing.{Editing}
use Rattle.syntax_editor.specs.Recording.{Recording, Foreign, BadRange, BadTarget, Recorded, inserting, is_gap}
use Rattle.rust_source.specs.Changes.{IsInsert, OnlyInserts}

changes-of : Recording → List Change
changes-of Foreign = []
changes-of BadRange = []
changes-of BadTarget = []
changes-of (Recorded cs) = cs

pub only-inserted : (e : Editing) (p : Element) (i : ℕ) (new : List Element) (cs : List Change) → inserting e p i new ≡ Recorded cs → OnlyInserts e → All IsInsert cs
unfolding changes-of
only-inserted e p i new cs = chosen (is_gap e.top p i)
  where
    chosen : (b : Bool) → (if b then Recorded (e.changes ++ insert p.place.up i new ∷ []) else Foreign) ≡ Recorded cs → OnlyInserts e → All IsInsert cs
    chosen false is only = cc
    chosen true is only = subst (All IsInsert) (ap changes-of is) (All-append IsInsert e.changes (insert p.place.up i new ∷ []) only (All-cons IsInsert (insert p.place.up i new) [] tt (All-nil IsInsert)))
