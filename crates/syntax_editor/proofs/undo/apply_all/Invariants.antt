use Rattle.std.proofs.Common.{◌≡◌, length, map}
use Rattle.std.specs.List.{All}
use Rattle.syntax_tree.specs.Element.{Element}
use Rattle.tree_rewrite.specs.Recorded.{recorded}
use Rattle.syntax_editor.specs.Inside.{IsSound}
use Rattle.syntax_editor.specs.Undo.{all_undone, AreWithin, IsSoundUndo}
use Rattle.syntax_editor.proofs.undo.apply_all.Given as goal

abbrev pub invariant-loop-undo : goal.invariant-loop-undo
invariant-loop-undo l = record {
  same : all_undone l.undos.items (map recorded l.changes.items) ≡ all_undone l.initial.undos.items (map recorded l.initial.changes.items);
  within : AreWithin l.undos.items (map recorded l.changes.items);
  undos_sound : (top : Element) → All (IsSoundUndo top) l.initial.undos.items → All (IsSoundUndo top) l.undos.items;
  sound : (top : Element) → All (IsSoundUndo top) l.initial.undos.items → All (IsSound top) l.initial.changes.items → All (IsSound top) l.changes.items;
}

abbrev pub decreases-loop-undo : goal.decreases-loop-undo
decreases-loop-undo l = length l.undos.items
