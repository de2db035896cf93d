-- What is left of them is deleted; if one is refused, those before it are undone.
use Rattle.std.proofs.Common.{◌≡◌, ◌+◌, ◌<◌, List, ◌∷◌, length, map, drop, get_or, ap, sym, ◌∙◌, subst, rules, add-one, drop-cons}
use Rattle.std.proofs.lemmas.List.{drop_all}
use Rattle.std.specs.List.{All}
use Rattle.syntax_tree.specs.Handle.{element_of}
use Rattle.syntax_editor.specs.Attrs.{deleting_each}
use Rattle.syntax_editor.specs.Editing.{Editing, with_changes}
use Rattle.syntax_editor.specs.Refusal.{RefusesRecord}
use Rattle.syntax_editor.specs.Undo.{all_undone, AreWithin, IsSoundUndo, Undoes}
use Rattle.syntax_editor.specs.declared.undo.Undo.{Undo}
use Rattle.syntax_editor.proofs.Deletions.{deleted-next, deleted-rest, refused-next}
use Rattle.syntax_editor.proofs.UndoLemmas.{editor-back}
use Rattle.syntax_editor.proofs.editor.SyntaxEditor.delete_each.Goals as goal

pub loop-element-preserved : goal.loop-element-preserved
loop-element-preserved c =
    let xs = c.args.elements.now in
    let i = c.loop-element.element-index in
    let x = c.element-item.result in
    let old = c.args.self.now in
    let e = c.loop-element.self in
    let d = c.delete_with_undo.new in
    let here : i < length xs = c.loop-element-test.true in
    let split : drop i xs ≡ get_or xs i x ∷ drop (i + 1) xs = rw (add-one, drop-cons xs i x) in
    let whole : drop i xs ≡ x ∷ drop (i + 1) xs = split ∙ ap (λ y. y ∷ drop (i + 1) xs) (sym c.element-item.is) in
    let top : e.top ≡ old.top = ap (λ (v : Editing). v.top) c.loop-element.invariant.rest in
    let before : Undoes e.top c.loop-element.undos.items e.changes old.changes =
    subst (λ t. Undoes t c.loop-element.undos.items e.changes old.changes) (sym top) c.loop-element.invariant.undoes in
    let after : Undoes e.top d.undos.items d.self.changes old.changes = c.in_default.ensures.undoes old.changes before in
    record {
      same = deleted-next e d.self (element_of x) (map element_of (drop (i + 1) xs)) c.in_default.ensures.recorded c.in_default.ensures.rest
          ∙ ap (λ l. deleting_each e (map element_of l)) (sym whole)
          ∙ c.loop-element.invariant.same;
      rest = deleted-rest old e d.self c.loop-element.invariant.rest c.in_default.ensures.rest;
      undoes = subst (λ t. Undoes t d.undos.items d.self.changes old.changes) top after;
    }

pub undo_all-requires-clause-within : goal.undo_all-requires-clause-within
undo_all-requires-clause-within c =
    let undos = c.loop-element.undos.items in
    let d = c.delete_with_undo.new in
    subst (λ (us : List Undo). AreWithin us d.self.changes) (sym c.in-Err.ensures.undos)
    (subst (λ (v : Editing). AreWithin undos v.changes) (sym c.in-Err.ensures.kept) c.loop-element.invariant.undoes.within)

pub undo_all-requires-clause-sound : goal.undo_all-requires-clause-sound
undo_all-requires-clause-sound c =
    let undos = c.loop-element.undos.items in
    let e = c.loop-element.self in
    let d = c.delete_with_undo.new in
    let top : e.top ≡ c.args.self.now.top = ap (λ (v : Editing). v.top) c.loop-element.invariant.rest in
    let sound : All (IsSoundUndo e.top) undos = subst (λ t. All (IsSoundUndo t) undos) (sym top) c.loop-element.invariant.undoes.sound in
    subst (λ (us : List Undo). All (IsSoundUndo d.self.top) us) (sym c.in-Err.ensures.undos)
    (subst (λ (v : Editing). All (IsSoundUndo v.top) undos) (sym c.in-Err.ensures.kept) sound)

pub returns-in-Err-clause-refused : goal.returns-in-Err-clause-refused
returns-in-Err-clause-refused c =
    let xs = c.args.elements.now in
    let i = c.loop-element.element-index in
    let x = c.element-item.result in
    let e = c.loop-element.self in
    let here : i < length xs = c.loop-element-test.true in
    let split : drop i xs ≡ get_or xs i x ∷ drop (i + 1) xs = rw (add-one, drop-cons xs i x) in
    let whole : drop i xs ≡ x ∷ drop (i + 1) xs = split ∙ ap (λ y. y ∷ drop (i + 1) xs) (sym c.element-item.is) in
    let refused : RefusesRecord (deleting_each c.args.self.now (map element_of xs)) c.in-Err.error =
    subst (λ r. RefusesRecord r c.in-Err.error) (ap (λ l. deleting_each e (map element_of l)) (sym whole) ∙ c.loop-element.invariant.same)
    (refused-next e (element_of x) (map element_of (drop (i + 1) xs)) c.in-Err.error c.in-Err.ensures.refused) in
    search (rules, refused)

pub returns-in-Err-clause-kept : goal.returns-in-Err-clause-kept
returns-in-Err-clause-kept c =
    let undos = c.loop-element.undos.items in
    let e = c.loop-element.self in
    let d = c.delete_with_undo.new in
    c.undo_all.ensures
    ∙ ap (λ (us : List Undo). with_changes d.self (all_undone us d.self.changes)) c.in-Err.ensures.undos
    ∙ ap (λ (v : Editing). with_changes v (all_undone undos v.changes)) c.in-Err.ensures.kept
    ∙ editor-back c.args.self.now e undos c.loop-element.invariant.rest c.loop-element.invariant.undoes.back

pub returns-clause-recorded : goal.returns-clause-recorded
returns-clause-recorded c =
    let xs = c.args.elements.now in
    let i = c.loop-element.element-index in
    sym c.loop-element.invariant.same ∙ ap (λ l. deleting_each c.loop-element.self (map element_of l)) (drop_all i xs c.loop-element-test.false)
