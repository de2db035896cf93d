use Rattle.std.proofs.Common.{map, take}
use Rattle.source_tools.specs.Writes.{HasChanges, change_in}
use Rattle.source_tools.proofs.writes.write_changes.Given as goal

abbrev pub invariant-loop-index : goal.invariant-loop-index
invariant-loop-index g l = HasChanges (map change_in (take l.index l.changes)) (g.T.Target.files l.initial.target) (g.T.Target.files l.target)
