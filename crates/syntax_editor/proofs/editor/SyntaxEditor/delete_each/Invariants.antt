use Rattle.std.proofs.Common.{◌≡◌, map, drop}
use Rattle.syntax_tree.specs.Handle.{element_of}
use Rattle.syntax_editor.specs.Attrs.{deleting_each}
use Rattle.syntax_editor.specs.Editing.{with_changes}
use Rattle.syntax_editor.specs.Undo.{Undoes}
use Rattle.syntax_editor.proofs.editor.SyntaxEditor.delete_each.Given as goal

abbrev pub invariant-loop-element : goal.invariant-loop-element
invariant-loop-element l = record {
  same : deleting_each l.self (map element_of (drop l.element-index l.elements)) ≡ deleting_each l.fn.self (map element_of l.elements);
  rest : l.self ≡ with_changes l.fn.self l.self.changes;
  undoes : Undoes l.fn.self.top l.undos.items l.self.changes l.fn.self.changes;
}
