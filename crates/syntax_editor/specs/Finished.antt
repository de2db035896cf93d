-- The edit that belongs to the edited tree with all changes applied.
use Rattle.std.specs.Prelude.{◌≡◌, ℕ, [], map}
use Rattle.rowan_green.specs.Forest.{Tree}
use Rattle.syntax_tree.specs.Element.{element_at}
use Rattle.tree_rewrite.specs.Changed.{changed_at}
use Rattle.tree_rewrite.specs.Fits.{IsNode}
use Rattle.tree_rewrite.specs.Marked as marks
use Rattle.syntax_editor.specs.Again.{annotated_at, found_again}
use Rattle.syntax_editor.specs.Edit.{Edit}
use Rattle.syntax_editor.specs.Editing.{Editing}
use Rattle.syntax_editor.specs.Rewriting.{rewriting}

-- the old tree; the new one, under this number; what changed; where each element came from; and what is found again
pub record IsFinished (e : Editing) (number : ℕ) (r : Edit) : Type 0 where
  pub tree : Tree
  pub rewritten : IsNode (rewriting e) tree
  pub old_root : r.old_root ≡ e.top
  pub new_root : r.new_root ≡ element_at number tree []
  pub changed : r.changed ≡ changed_at (rewriting e) 0
  pub origins : r.origins ≡ marks.origins (rewriting e)
  pub changed_elements : r.changed_elements ≡ map (element_at number tree) (marks.changed (rewriting e))
  pub annotated : r.annotated ≡ map (annotated_at r.new_root) (found_again e)
