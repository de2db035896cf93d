use Rattle.std.proofs.Common.{◌≡◌, drop}
use Rattle.tree_rewrite.specs.Rewrite.{jobs, jobs_from, kept_of}
use Rattle.tree_rewrite.proofs.KeptLemmas.{after_jobs}
use Rattle.tree_rewrite.proofs.kept.jobs_of.Given as goal

abbrev pub invariant-loop-change : goal.invariant-loop-change
invariant-loop-change l =
    jobs l.root l.changes l.fn.mapping
    ≡ after_jobs l.jobs.items (jobs_from l.root l.changes l.fn.mapping (kept_of l.root.place.root l.changes (drop l.change-index l.changes)))
