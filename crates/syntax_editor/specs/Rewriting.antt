-- The edited tree with all recorded changes applied, and the errors if there is none.
use Rattle.std.specs.Prelude.{◌≡◌, ℕ, ◌^◌, None, true, false}
use Rattle.tree_rewrite.specs.Change.{has_collision}
use Rattle.tree_rewrite.specs.Fits.{new_fits}
use Rattle.tree_rewrite.specs.Marked.{Marked}
use Rattle.tree_rewrite.specs.Rewrite.{jobs, is_placeable, rewrite}
use Rattle.syntax_editor.specs.Editing.{Editing}
use Rattle.syntax_editor.specs.declared.error.RewriteError.{RewriteError}
use Rattle.syntax_editor.specs.declared.error.RewriteError.TheVariants as rewrites
use Rattle.syntax_editor.specs.declared.error.FinishError.{FinishError}
use Rattle.syntax_editor.specs.declared.error.FinishError.TheVariants as finishes

-- the tree with all changes applied
abbrev pub rewriting : Editing → Marked
rewriting e = rewrite e.top e.changes e.mapping

-- two changes replace one element
abbrev pub IsIntersecting : Editing → Type 0
IsIntersecting e = has_collision e.changes ≡ true

-- no two do, and a change in a node that is replaced by a node has no place in that
abbrev pub MissesMapping : Editing → Type 0
MissesMapping e = (has_collision e.changes ≡ false) × (jobs e.top e.changes e.mapping ≡ None)

-- each change has a place, no two collide
abbrev pub IsPlaceable : Editing → Type 0
IsPlaceable e = is_placeable e.top e.changes e.mapping ≡ true

-- all that holds, and a node of the new tree may not have its children
abbrev pub IsTooLong : Editing → Type 0
IsTooLong e = IsPlaceable e × (new_fits (rewriting e) ≡ false)

-- the first case that fits; out of memory at any point
abbrev pub RefusesRewriting : Editing → RewriteError → Type 0
RefusesRewriting e rewrites.Intersecting = IsIntersecting e
RefusesRewriting e rewrites.MissingMapping = MissesMapping e
RefusesRewriting e rewrites.TooLong = IsTooLong e
RefusesRewriting e rewrites.NoMemory = Unit {0}

-- the first case of `RefusesRewriting` that fits; `NoTreeNumber` only if all of the rewriting fits and no number is left
abbrev pub RefusesFinish : Editing → ℕ → FinishError → Type 0
RefusesFinish e number finishes.Intersecting = IsIntersecting e
RefusesFinish e number finishes.MissingMapping = MissesMapping e
RefusesFinish e number finishes.TooLong = IsTooLong e
RefusesFinish e number finishes.NoTreeNumber = IsPlaceable e × (new_fits (rewriting e) ≡ true) × (number ≡ 2 ^ 32)
RefusesFinish e number finishes.NoMemory = Unit {0}
