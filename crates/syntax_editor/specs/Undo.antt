-- How recorded deletions are undone.
use Rattle.std.specs.Prelude.{◌≡◌, ◌-◌, ◌<◌, List, [], ◌∷◌, length, take, set, Some, None}
use Rattle.std.specs.List.{All}
use Rattle.syntax_tree.specs.Element.{Way, Element}
use Rattle.tree_rewrite.specs.Change.{Change}
use Rattle.tree_rewrite.specs.Recorded.{recorded}
use Rattle.syntax_editor.specs.Inside.{IsSound}
use Rattle.syntax_editor.specs.Noted.{first_single}
use Rattle.syntax_editor.specs.declared.undo.Undo.{Undo}
use Rattle.syntax_editor.specs.declared.undo.Undo.TheVariants.{Remove, Restore}

-- the changes without the last one, or with one of them replaced
abbrev pub undone : Undo → List Change → List Change
undone Remove cs = take (length cs - 1) cs
undone (Restore n c) cs = set cs n (recorded c)

-- all of these undone, the last first
abbrev pub all_undone : List Undo → List Change → List Change
all_undone [] cs = cs
all_undone (u ∷ us) cs = undone u (all_undone us cs)

-- there is a change that it replaces
abbrev pub IsWithin : Undo → List Change → Type 0
IsWithin Remove cs = Unit {0}
IsWithin (Restore n c) cs = n < length cs

abbrev pub AreWithin : List Undo → List Change → Type 0
AreWithin [] cs = Unit {0}
AreWithin (u ∷ us) cs = IsWithin u (all_undone us cs) × AreWithin us cs

-- the change that it restores may be recorded on this tree
abbrev pub IsSoundUndo : Element → Undo → Type 0
IsSoundUndo top Remove = Unit {0}
IsSoundUndo top (Restore n c) = IsSound top c

-- undone after these changes, they leave the old ones
pub record Undoes (top : Element) (us : List Undo) (cs old : List Change) : Type 0 where
  pub sound : All (IsSoundUndo top) us
  pub within : AreWithin us cs
  pub back : all_undone us cs ≡ old

-- undoes a deletion that is recorded next, of the element at this path, named alone
abbrev pub IsUndoOf : Way → List Change → Undo → Type 0
IsUndoOf w cs Remove = first_single w cs ≡ None
IsUndoOf w cs (Restore n c) = (first_single w cs ≡ Some n) × (set cs n (recorded c) ≡ cs)
