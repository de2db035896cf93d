use Rattle.std.proofs.Common.{◌≡◌}
use Rattle.rowan.specs.Place.{kind_at, start_of}
use Rattle.syntax_tree.specs.Handle.{elements_left}
use Rattle.syntax_editor.specs.Found.{found, node_in}
use Rattle.syntax_editor.proofs.edit.SyntaxEdit.find_element.Given as goal

abbrev pub invariant-loop-element : goal.invariant-loop-element
invariant-loop-element l = record {
  can : (goal.iterator-loop-element).can_next l.element-iterator;
  finite : (goal.iterator-loop-element).is_finite l.element-iterator;
  same : found l.self.new_root l.old ≡ node_in (kind_at l.old.place) (start_of l.old.place) (elements_left l.element-iterator);
}
