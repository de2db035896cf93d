-- When a call records nothing, and what refusals print.
use Rattle.std.specs.Prelude.{◌≡◌, ℕ, List, codes}
use Rattle.syntax_tree.specs.Element.{Element}
use Rattle.syntax_tree.specs.declared.error.TreeError.{TreeError}
use Rattle.syntax_tree.specs.declared.error.TreeError.TheVariants as trees
use Rattle.tree_rewrite.specs.declared.error.PlanError.{PlanError}
use Rattle.tree_rewrite.specs.declared.error.PlanError.TheVariants as plans
use Rattle.syntax_editor.specs.Recording.{Recording, Foreign, BadRange, BadTarget}
use Rattle.syntax_editor.specs.Inside.{IsOf}
use Rattle.syntax_editor.specs.declared.error.RecordError.{RecordError}
use Rattle.syntax_editor.specs.declared.error.RecordError.TheVariants as records
use Rattle.syntax_editor.specs.declared.error.MergeError.{MergeError}
use Rattle.syntax_editor.specs.declared.error.MergeError.TheVariants as merges
use Rattle.syntax_editor.specs.declared.error.WhitespaceError.{WhitespaceError}
use Rattle.syntax_editor.specs.declared.error.WhitespaceError.TheVariants as spaced
use Rattle.syntax_editor.specs.declared.error.RewriteError.{RewriteError}
use Rattle.syntax_editor.specs.declared.error.RewriteError.TheVariants as rewrites
use Rattle.syntax_editor.specs.declared.error.FinishError.{FinishError}
use Rattle.syntax_editor.specs.declared.error.FinishError.TheVariants as finishes

-- A refusal tells which case fits; out of memory comes at any point.
abbrev pub RefusesRecord : Recording → RecordError → Type 0
RefusesRecord r records.Foreign = r ≡ Foreign
RefusesRecord r records.BadRange = r ≡ BadRange
RefusesRecord r records.BadTarget = r ≡ BadTarget
RefusesRecord r records.NoMemory = Unit {0}

abbrev pub record_message : RecordError → List ℕ
record_message records.Foreign = codes "of another tree"
record_message records.BadRange = codes "the ends are not children of one parent in order"
record_message records.BadTarget = codes "the root can only be replaced by one node"
record_message records.NoMemory = codes "out of memory"

-- only an editor of this tree, by number and by green tree, is merged; out of memory only after that
abbrev pub RefusesMerge : Element → Element → MergeError → Type 0
RefusesMerge top other merges.Foreign = IsOf top other → ⊥
RefusesMerge top other merges.NoMemory = IsOf top other

abbrev pub merge_message : MergeError → List ℕ
merge_message merges.Foreign = codes "of another tree"
merge_message merges.NoMemory = codes "out of memory"

abbrev pub whitespace_message : WhitespaceError → List ℕ
whitespace_message spaced.Foreign = codes "of another tree"
whitespace_message spaced.NoMemory = codes "out of memory"
whitespace_message spaced.NoTreeNumber = codes "no tree number is left"

abbrev pub rewrite_message : RewriteError → List ℕ
rewrite_message rewrites.Intersecting = codes "two changes replace one element"
rewrite_message rewrites.MissingMapping = codes "a change in a replaced node has no place in what replaces it"
rewrite_message rewrites.TooLong = codes "too long"
rewrite_message rewrites.NoMemory = codes "out of memory"

abbrev pub finish_message : FinishError → List ℕ
finish_message finishes.Intersecting = codes "two changes replace one element"
finish_message finishes.MissingMapping = codes "a change in a replaced node has no place in what replaces it"
finish_message finishes.TooLong = codes "too long"
finish_message finishes.NoTreeNumber = codes "no tree number is left"
finish_message finishes.NoMemory = codes "out of memory"

-- the error of a plan, of a tree, of a rewriting, as a later call returns it
abbrev pub of_plan : PlanError → RewriteError
of_plan plans.Intersecting = rewrites.Intersecting
of_plan plans.MissingMapping = rewrites.MissingMapping
of_plan plans.NoMemory = rewrites.NoMemory

abbrev pub of_rewrite : RewriteError → FinishError
of_rewrite rewrites.Intersecting = finishes.Intersecting
of_rewrite rewrites.MissingMapping = finishes.MissingMapping
of_rewrite rewrites.TooLong = finishes.TooLong
of_rewrite rewrites.NoMemory = finishes.NoMemory

abbrev pub of_tree : TreeError → FinishError
of_tree trees.Spent = finishes.NoTreeNumber
of_tree trees.NoMemory = finishes.NoMemory

abbrev pub of_number : TreeError → WhitespaceError
of_number trees.Spent = spaced.NoTreeNumber
of_number trees.NoMemory = spaced.NoMemory
