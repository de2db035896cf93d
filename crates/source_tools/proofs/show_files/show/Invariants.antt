use Rattle.std.proofs.Common.{take}
use Rattle.source_tools.proofs.ShowLemmas.{IfKept}
use Rattle.source_tools.proofs.show_files.show.Given as goal

abbrev pub invariant-loop-index : goal.invariant-loop-index
invariant-loop-index g l =
    IfKept l.view (g.T.Target.files l.target) (take l.index l.sources) (g.W.Write.contents l.initial.writer) (g.W.Write.contents l.writer) l.has_messages l.faults.items
