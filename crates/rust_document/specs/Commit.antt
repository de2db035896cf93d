-- When a commit is refused, and what a refusal prints.
use Rattle.std.specs.Prelude.{◌≡◌, ℕ, ◌^◌, List, codes}
use Rattle.rust_document.specs.Step.{Verdict}
use Rattle.rust_document.specs.Step as step
use Rattle.rust_document.specs.declared.error.CommitError.{CommitError}
use Rattle.rust_document.specs.declared.error.CommitError.TheVariants.{Foreign, Intersecting, MissingMapping, TooLong, Unfaithful, NoTreeNumber, NoMemory}
use Rattle.syntax_tree.specs.declared.error.TreeError.{TreeError}
use Rattle.syntax_tree.specs.declared.error.TreeError.TheVariants as trees
use Rattle.syntax_editor.specs.declared.error.RewriteError.{RewriteError}
use Rattle.syntax_editor.specs.declared.error.RewriteError.TheVariants as rewrites

-- A refusal tells what the verdict says. Out of tree numbers comes only where none is left, out of memory at any point.
abbrev pub RefusesCommit : Verdict → ℕ → CommitError → Type 0
RefusesCommit v number Foreign = v ≡ step.Foreign
RefusesCommit v number Intersecting = v ≡ step.Intersecting
RefusesCommit v number MissingMapping = v ≡ step.MissingMapping
RefusesCommit v number TooLong = v ≡ step.TooLong
RefusesCommit v number Unfaithful = v ≡ step.Unfaithful
RefusesCommit v number NoTreeNumber = (v ≡ step.Accepted) × (number ≡ 2 ^ 32)
RefusesCommit v number NoMemory = Unit {0}

abbrev pub commit_message_of : CommitError → List ℕ
commit_message_of Foreign = codes "of another tree"
commit_message_of Intersecting = codes "two changes replace one element"
commit_message_of MissingMapping = codes "a change in a replaced node has no place in what replaces it"
commit_message_of TooLong = codes "too long"
commit_message_of Unfaithful = codes "the new text does not read as the rewritten tree"
commit_message_of NoTreeNumber = codes "no tree number is left"
commit_message_of NoMemory = codes "out of memory"

-- a tree that could not be made
abbrev pub commit_error_of : TreeError → CommitError
commit_error_of trees.Spent = NoTreeNumber
commit_error_of trees.NoMemory = NoMemory

-- a tree that could not be rewritten
abbrev pub of_rewrite : RewriteError → CommitError
of_rewrite rewrites.Intersecting = Intersecting
of_rewrite rewrites.MissingMapping = MissingMapping
of_rewrite rewrites.TooLong = TooLong
of_rewrite rewrites.NoMemory = NoMemory
