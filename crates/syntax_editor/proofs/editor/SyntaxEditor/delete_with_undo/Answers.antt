-- One more is undone first.
use Rattle.std.proofs.Common.{◌≡◌, List, [], ap, sym, ◌∙◌, subst}
use Rattle.syntax_tree.specs.Handle.{element_of}
use Rattle.syntax_editor.specs.Editing.{Editing}
use Rattle.syntax_editor.specs.Recording.{Recorded, replacing}
use Rattle.syntax_editor.specs.Undo.{Undoes}
use Rattle.syntax_editor.specs.declared.undo.Undo.{Undo}
use Rattle.syntax_editor.proofs.UndoLemmas.{undoes-more}
use Rattle.syntax_editor.proofs.editor.SyntaxEditor.delete_with_undo.Goals as goal

pub returns-in-Ok-clause-undoes : goal.returns-in-Ok-clause-undoes
returns-in-Ok-clause-undoes c = λ old undoes.
    let e = c.args.self.now in
    let x = element_of c.args.element.now in
    let cs = c.delete.new.self.changes in
    let is : replacing e x [] ≡ Recorded cs = ap (λ (v : Editing). replacing v x []) (sym c.in_ok-undo.ensures.same) ∙ c.in-Ok.ensures.recorded in
    subst (λ (l : List Undo). Undoes e.top l cs old) (sym c.in_ok-push.ensures.items)
    (undoes-more e x c.args.undos.now.items c.in_ok-undo.undo cs old c.in_ok-undo.ensures.undo c.in_ok-undo.ensures.sound is undoes)
