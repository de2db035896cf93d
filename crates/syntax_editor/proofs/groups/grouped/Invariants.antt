use Rattle.std.proofs.Common.{◌≡◌, ◌++◌, ℕ, map, drop}
use Rattle.syntax_tree.specs.Handle.{element_of}
use Rattle.syntax_editor.specs.Edit.{of_annotation}
use Rattle.syntax_editor.specs.Groups.{group_of}
use Rattle.syntax_editor.specs.Inside.{annotated}
use Rattle.syntax_editor.proofs.groups.grouped.Given as goal

abbrev pub invariant-loop-element : goal.invariant-loop-element
invariant-loop-element l =
    (n : ℕ) → map element_of (group_of l.groups n) ++ of_annotation n (map annotated (drop l.element-index l.found)) ≡ of_annotation n (map annotated l.found)
