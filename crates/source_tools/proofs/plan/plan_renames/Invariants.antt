use Rattle.std.proofs.Common.{take}
use Rattle.source_tools.specs.Renames.{IsRenamableFile, changes_of}
use Rattle.source_tools.proofs.PlanLemmas.{IfPlanned}
use Rattle.source_tools.proofs.plan.plan_renames.Given as goal

abbrev pub invariant-loop-index : goal.invariant-loop-index
invariant-loop-index g l = IfPlanned (IsRenamableFile l.renamings) (changes_of l.renamings) (g.T.Target.files l.target) (take l.index l.sources) l.changes.items
