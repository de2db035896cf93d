-- The changes are those of the tree, so the kind of each named element is that in the tree.
use Rattle.std.proofs.Common.{◌≡◌, ◌&&◌, List, nat_eq, true, ap, sym, ◌∙◌, map, subst}
use Rattle.std.specs.Cmp.{unsigned_Decides}
use Rattle.std.specs.List.{All, list_any}
use Rattle.syntax_tree.specs.Handle.{element_of}
use Rattle.tree_rewrite.specs.Recorded.{recorded}
use Rattle.syntax_editor.specs.ByWay.{way_of}
use Rattle.tree_rewrite.specs.declared.change.Change.{Change}
use Rattle.syntax_editor.specs.Editing.{Editing}
use Rattle.syntax_editor.specs.Inside.{IsSound}
use Rattle.syntax_editor.specs.Recording.{is_deletion_at}
use Rattle.syntax_editor.proofs.NotedLemmas.{has_kind, and-first}
use Rattle.syntax_editor.proofs.editor.SyntaxEditor.deleted.Goals as goal

pub returns-then-tree : goal.returns-then-tree
returns-then-tree c =
    let e = c.args.self.now in
    let x = c.args.element.now in
    let number : (element_of x).number ≡ e.top.number =
    sym c.tree.ensures ∙ (c.if-tree.true ∙ (c.tree-2.ensures ∙ ap (λ (v : Editing). v.top.number) c.self.view_is)) in
    let same : nat_eq (element_of x).number e.top.number ≡ true = (unsigned_Decides (element_of x).number e.top.number).1 number in
    let kind = has_kind e.top x in
    let any = list_any (is_deletion_at (way_of x)) e.changes in
    let root = c.self.inside.root in
    let lent = c.deref.ensures.value in
    c.is_deleted.ensures root (subst (All (IsSound root)) (sym lent) c.self.invariant.1)
    ∙ ap (λ (l : List Change). has_kind root x && list_any (is_deletion_at (way_of x)) (map recorded l)) lent
    ∙ ap (λ (v : Editing). has_kind v.top x && list_any (is_deletion_at (way_of x)) v.changes) c.self.view_is
    ∙ sym (and-first (nat_eq (element_of x).number e.top.number) kind any ∙ ap (λ b. b && (kind && any)) same)
