use Rattle.std.proofs.Common.{◌≡◌, [], map, refl, sym, ap, ◌∙◌, subst}
use Rattle.syntax_tree.specs.Element.{element_at}
use Rattle.syntax_tree.specs.Handle.{element_of}
use Rattle.tree_rewrite.specs.Changed.{bounds}
use Rattle.tree_rewrite.specs.Fits.{IsNode}
use Rattle.tree_rewrite.specs.Marked.{changed}
use Rattle.tree_rewrite.specs.Pieces.{Say}
use Rattle.annotated_elements.specs.Annotated.{annotated, elements_at, elements_of}
use Rattle.annotated_elements.specs.Changed.{ArePutMarks}
use Rattle.annotated_elements.specs.Found.{AreOrigins}
use Rattle.syntax_editor.specs.Edit.{Edit}
use Rattle.syntax_editor.specs.Editing.{Editing}
use Rattle.syntax_editor.specs.Finished.{IsFinished}
use Rattle.syntax_editor.specs.Inside.{editing_of}
use Rattle.syntax_editor.specs.Inside as inside
use Rattle.syntax_editor.specs.Rewriting.{rewriting}
use Rattle.syntax_editor.proofs.FoundAgain.{seen-again}
use Rattle.syntax_editor.proofs.editor.SyntaxEditor.finish.Goals as goal

pub returns-clause-finished : goal.returns-clause-finished
returns-clause-finished c =
    let own = c.self.inside in
    let m = rewriting (editing_of own.root own.changes.items own.mapping) in
    let made = c.in_ok-green.ensures in
    let tree = c.in_ok-green.field-0.green in
    let root = c.in_ok-new_root.new_root in
    let is : root ≡ element_at c.args.ids.now tree [] = c.in_ok-new_root.ensures.ok in
    let top = ap (λ e. e.place.up) is in
    let node : IsNode m root.place.root = subst (IsNode m) (sym (ap (λ e. e.place.root) is)) made.green in
    let says : Say c.deref.result.now m = subst (λ ps. Say ps m) (sym c.deref.ensures.value) made.says in
    let came_from = c.in_ok-origins.ensures in
    let put : ArePutMarks m root c.in_ok-origins.origins.put.items = record { top = top; tree = node; marks = came_from.put m says } in
    let came : AreOrigins m root (map element_of c.in_ok-origins.origins.elements.items) = record { top = top; tree = node; origins = came_from.elements m says } in
    let edit : Edit = record {
      old_root = own.root;
      new_root = root;
      changed = map bounds c.in_ok-green.field-0.changed.items;
      origins = map element_of c.in_ok-origins.origins.elements.items;
      changed_elements = map element_of c.in-Ok.told.changed_elements.items;
      annotated = map inside.annotated c.in-Ok.told.annotated.items;
    } in
    subst (λ (e : Editing). IsFinished e c.args.ids.now edit) c.self.view_is (record {
      tree = tree;
      rewritten = made.green;
      old_root = refl;
      new_root = is;
      changed = made.changed;
      origins = came_from.elements m says;
      changed_elements = c.in-Ok.ensures.changed m put ∙ ap (λ e. map (element_at e.number e.place.root) (changed m)) is;
      annotated = seen-again own.mapping own.annotations.items c.in-Ok.told.annotated.items m root
          (c.in-Ok.ensures.annotated m came ∙ ap (λ xs. elements_at root (annotated own.mapping (elements_of xs) m)) c.deref-2.ensures.value);
    })
