-- A change in place of another.
use Rattle.std.proofs.Common.{ap, sym, ◌∙◌, subst, map, set}
use Rattle.std.proofs.lemmas.List.{map-set}
use Rattle.std.proofs.lemmas.List.Elements.{All-set}
use Rattle.tree_rewrite.specs.Recorded.{recorded}
use Rattle.tree_rewrite.specs.declared.change.Change.{Change}
use Rattle.syntax_editor.specs.Inside.{IsSound}
use Rattle.syntax_editor.specs.Undo.{undone, IsSoundUndo}
use Rattle.syntax_editor.specs.declared.undo.Undo.{Undo}
use Rattle.syntax_editor.proofs.undo.apply.Goals as goal

pub returns-in-Restore-clause-undone : goal.returns-in-Restore-clause-undone
returns-in-Restore-clause-undone c =
    let xs = c.args.changes.now.items in
    let n = c.in-Restore.index in
    map-set recorded xs n c.replace.new.dest
    ∙ ap (λ (d : Change). set (map recorded xs) n (recorded d)) c.replace.ensures.after
    ∙ ap (λ (u : Undo). undone u (map recorded xs)) (sym c.in-Restore.is)

pub returns-in-Restore-clause-sound : goal.returns-in-Restore-clause-sound
returns-in-Restore-clause-sound c = λ top own all.
    let xs = c.args.changes.now.items in
    let change : IsSound top c.in-Restore.change = subst (IsSoundUndo top) c.in-Restore.is own in
    All-set (IsSound top) xs c.in-Restore.index c.replace.new.dest (subst (IsSound top) (sym c.replace.ensures.after) change) all
