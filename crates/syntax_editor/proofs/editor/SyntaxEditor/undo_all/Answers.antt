-- Nothing is noted, and the changes are sound.
use Rattle.std.proofs.Common.{◌≡◌, ap, sym, subst, map}
use Rattle.std.specs.List.{All}
use Rattle.tree_rewrite.specs.Recorded.{recorded}
use Rattle.syntax_editor.specs.Editing.{Editing}
use Rattle.syntax_editor.specs.Undo.{IsSoundUndo}
use Rattle.syntax_editor.proofs.UndoLemmas.{nothing-noted}
use Rattle.syntax_editor.proofs.editor.SyntaxEditor.undo_all.Goals as goal

pub invariant_of-self : goal.invariant_of-self
invariant_of-self c =
    let root = c.self.inside.root in
    let top : root ≡ c.args.self.now.top = ap (λ (v : Editing). v.top) c.self.view_is in
    let sound = subst (λ t. All (IsSoundUndo t) c.args.undos.items) (sym top) c.requires.sound in (
      c.self.invariant.0,
      c.apply_all.ensures.sound root sound c.self.invariant.1,
      nothing-noted c.clear.new.self (map recorded c.apply_all.new.changes.items) c.clear.ensures.empty,
    )
