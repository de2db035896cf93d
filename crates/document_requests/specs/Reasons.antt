-- Why a commit is unfaithful.
use Rattle.std.specs.Prelude.{ℕ, List, Option, None}
use Rattle.rust_document.specs.Difference.{Told, difference}
use Rattle.rust_document.specs.Rewrite.{rewritten}
use Rattle.rust_document.specs.Step as step
use Rattle.rust_document.specs.Step.{State, Verdict, root_element, verdict}
use Rattle.syntax_editor.specs.Editing.{Editing, untouched}
use Rattle.document_requests.specs.Request.{Change}
use Rattle.document_requests.specs.Session.{Prepared, Ready, Stopped, number_after_preparing, prepared}

-- the first difference of an unfaithful rewrite; any other verdict is no reason
abbrev pub difference_by : Verdict → State → Editing → Option Told
difference_by step.Foreign d e = None
difference_by step.Intersecting d e = None
difference_by step.MissingMapping d e = None
difference_by step.TooLong d e = None
difference_by step.Unfaithful d e = difference d.grammar d.edition (rewritten e)
difference_by step.Accepted d e = None

abbrev pub difference_between : State → Editing → Option Told
difference_between d e = difference_by (verdict d e) d e

abbrev pub difference_after : State → Prepared → Option Told
difference_after d (Ready e next) = difference_between d e
difference_after d (Stopped refusal next) = None

-- the first difference between the rewritten tree of a commit's changes and the reading of its text, if the commit is unfaithful
abbrev pub first_difference : List Change → State → ℕ → Option Told
first_difference changes d next = difference_after d (prepared changes d (untouched (root_element d)) next)

-- the number that the next tree gets once a commit's changes are recorded, up to the first that is refused
abbrev pub number_after_reasons : List Change → State → ℕ → ℕ
number_after_reasons changes d next = number_after_preparing (prepared changes d (untouched (root_element d)) next)
