-- The trees of two roots are one where number and green node are.
use Rattle.std.proofs.Common.{◌≡◌, ap, sym, ◌∙◌}
use Rattle.rowan.specs.Place.{term_at}
use Rattle.rowan_green.specs.Same.{same_tree-Decides}
use Rattle.syntax_editor.specs.Editing.{Editing}
use Rattle.syntax_editor.proofs.Roots.{green-root}
use Rattle.syntax_editor.proofs.editor.SyntaxEditor.has_tree_of.Goals as goal

pub returns-then-tree : goal.returns-then-tree
returns-then-tree c =
    let one = c.green.result.now in
    let two = c.green-then-tree.result.now in
    let top = ap (λ (v : Editing). v.top) c.other.view_is in
    let own = ap (λ (v : Editing). v.top) c.self.view_is in
    let a : one ≡ c.args.other.now.top.place.root =
    green-root c.other.inside.root.place one c.other.invariant.0 (ap term_at (sym c.cursor.ensures) ∙ c.green.ensures) ∙ ap (λ (v : Editing). v.top.place.root) c.other.view_is in
    let b : two ≡ c.args.self.now.top.place.root =
    green-root c.self.inside.root.place two c.self.invariant.0 (ap term_at (sym c.cursor-then-tree.ensures) ∙ c.green-then-tree.ensures) ∙ ap (λ (v : Editing). v.top.place.root) c.self.view_is in
    let same : c.args.other.now.top.number ≡ c.args.self.now.top.number =
    sym (ap (λ (v : Editing). v.top.number) c.other.view_is) ∙ (sym c.tree.ensures ∙ (c.if-tree.true ∙ (c.tree-2.ensures ∙ ap (λ (v : Editing). v.top.number) c.self.view_is))) in
    let decides = same_tree-Decides one two in
    (λ t. (same, sym a ∙ (decides.0 (sym c.eq.ensures ∙ t) ∙ b)), λ h. c.eq.ensures ∙ decides.1 (a ∙ (h.1 ∙ sym b)))
