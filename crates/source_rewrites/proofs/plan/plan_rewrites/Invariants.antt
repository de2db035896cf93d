use Rattle.std.proofs.Common.{take}
use Rattle.source_rewrites.specs.Rewrites.{IsRewritableFile, changes_of}
use Rattle.source_tools.proofs.PlanLemmas.{IfPlanned}
use Rattle.source_rewrites.proofs.plan.plan_rewrites.Given as goal

abbrev pub invariant-loop-index : goal.invariant-loop-index
invariant-loop-index g l = IfPlanned (IsRewritableFile l.rule) (changes_of l.rule) (g.T.Target.files l.target) (take l.index l.rewrites) l.changes.items
