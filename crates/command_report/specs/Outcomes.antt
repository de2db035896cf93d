-- What commands come to.
use Rattle.std.specs.Prelude.{ℕ, ◌==◌, ◌||◌, not, Bool, true, false, if◌then◌else◌}
use Rattle.command_report.specs.declared.outcome.Outcome.{Outcome}
use Rattle.command_report.specs.declared.outcome.Outcome.TheVariants.{Done, Found, Fault}
use Rattle.command_report.specs.declared.outcome.RenameCounts.{RenameCounts}

-- the status that a process ends with
abbrev pub status_of : Outcome → ℕ
status_of Done = 0
status_of Found = 1
status_of Fault = 2

-- the outcome of two steps: a fault counts before what is found
abbrev pub worse : Outcome → Outcome → Outcome
worse Fault b = Fault
worse Done b = b
worse Found Fault = Fault
worse Found Done = Found
worse Found Found = Found

-- What a renaming came to. A check finds files that would change and places that are left; without it, a renaming that changes no
-- file is one that found nothing to do.
abbrev pub rename_outcome : Bool → RenameCounts → Outcome
rename_outcome true c = if not (c.files == 0) || not (c.left == 0) then Found else Done
rename_outcome false c = if c.files == 0 then Found else Done

-- what a search came to: without a match there is nothing to do
abbrev pub search_outcome : ℕ → Bool → Outcome
search_outcome count true = Fault
search_outcome count false = if count == 0 then Found else Done
