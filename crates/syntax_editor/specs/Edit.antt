-- What contracts see of an edit.
use Rattle.std.specs.Prelude.{ℕ, ◌==◌, List, map}
use Rattle.std.specs.List.{filter}
use Rattle.syntax_tree.specs.Element.{Element}
use Rattle.syntax_editor.specs.Editing.{Annotated}

-- The roots of the old tree and of the new one; the ranges of inserted elements; the origin of each element of the new tree; its inserted
-- elements; and those that come from annotated ones, with the annotations.
pub record Edit : Type 0 where
  pub old_root : Element
  pub new_root : Element
  pub changed : List (ℕ × ℕ)
  pub origins : List Element
  pub changed_elements : List Element
  pub annotated : List Annotated

-- those with the annotation of a number
abbrev pub of_annotation : ℕ → List Annotated → List Element
of_annotation n xs = map (λ a. a.element) (filter (λ a. a.annotation == n) xs)
