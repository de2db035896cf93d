-- The last one is undone, and is no longer among those that are left.
use Rattle.std.proofs.Common.{◌≡◌, List, [], ◌∷◌, ◌++◌, Some, ap, sym, ◌∙◌, subst, map}
use Rattle.std.proofs.lemmas.List.Elements.{All-pop}
use Rattle.tree_rewrite.specs.Recorded.{recorded}
use Rattle.syntax_editor.specs.Undo.{all_undone, AreWithin, IsSoundUndo}
use Rattle.syntax_editor.specs.declared.undo.Undo.{Undo}
use Rattle.syntax_editor.proofs.UndoLemmas.{undone-last, within-last}
use Rattle.syntax_editor.proofs.undo.apply_all.Goals as goal

pub apply-requires : goal.apply-requires
apply-requires c =
    let cs = map recorded c.loop-undo.changes.items in
    let us = c.pop.new.self.items in
    let u = c.in-Some.undo in
    let split : c.loop-undo.undos.items ≡ us ++ u ∷ [] = c.in-Some.ensures.items in
    (within-last us u cs (subst (λ (l : List Undo). AreWithin l cs) split c.loop-undo.invariant.within)).0

pub loop-undo-preserved : goal.loop-undo-preserved
loop-undo-preserved c =
    let cs = map recorded c.loop-undo.changes.items in
    let us = c.pop.new.self.items in
    let u = c.in-Some.undo in
    let split : c.loop-undo.undos.items ≡ us ++ u ∷ [] = c.in-Some.ensures.items in
    let within = within-last us u cs (subst (λ (l : List Undo). AreWithin l cs) split c.loop-undo.invariant.within) in
    record {
      same = ap (all_undone us) c.apply.ensures.undone
          ∙ sym (undone-last us u cs)
          ∙ ap (λ (l : List Undo). all_undone l cs) (sym split)
          ∙ c.loop-undo.invariant.same;
      within = subst (AreWithin us) (sym c.apply.ensures.undone) within.1;
      undos_sound = λ top h. (All-pop (IsSoundUndo top) c.loop-undo.undos.items us (Some u) split (c.loop-undo.invariant.undos_sound top h)).0;
      sound = λ top h k.
          c.apply.ensures.sound top
          (All-pop (IsSoundUndo top) c.loop-undo.undos.items us (Some u) split (c.loop-undo.invariant.undos_sound top h)).1
          (c.loop-undo.invariant.sound top h k);
    }
