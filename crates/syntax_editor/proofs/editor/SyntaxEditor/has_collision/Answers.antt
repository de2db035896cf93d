-- The copies are seen as the changes are.
use Rattle.std.proofs.Common.{◌∙◌, map, ap}
use Rattle.tree_rewrite.specs.Recorded.{recorded}
use Rattle.syntax_editor.proofs.Sound.{all_keep, copies_keep}
use Rattle.syntax_editor.proofs.editor.SyntaxEditor.has_collision.Goals as goal

pub build-requires-clause-root : goal.build-requires-clause-root
build-requires-clause-root c =
    copies_keep c.self.inside.changes.items c.in_ok-changes.changes.items (c.in_ok-changes.ensures.same ∙ ap (map recorded) c.deref.ensures.value)
    (all_keep c.self.inside.root c.self.inside.changes.items c.self.invariant.1)
