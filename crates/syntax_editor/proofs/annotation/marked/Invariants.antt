use Rattle.std.proofs.Common.{◌≡◌, map, take}
use Rattle.syntax_tree.specs.Handle.{element_of}
use Rattle.syntax_editor.specs.Editing.{with_annotation}
use Rattle.syntax_editor.specs.Inside.{annotated}
use Rattle.syntax_editor.proofs.annotation.marked.Given as goal

abbrev pub invariant-loop-element : goal.invariant-loop-element
invariant-loop-element l =
    map annotated l.marked.items ≡ map (with_annotation l.annotation.number) (map element_of (take l.element-index l.elements))
