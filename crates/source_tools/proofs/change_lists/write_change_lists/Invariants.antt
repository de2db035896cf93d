use Rattle.std.proofs.Common.{ℕ, List, map, take}
use Rattle.std.specs.Io.KnownBytes.{Appends}
use Rattle.source_tools.specs.ChangeLists.{AreChangeLists}
use Rattle.source_tools.specs.Writes.{change_in}
use Rattle.source_tools.proofs.change_lists.write_change_lists.Given as goal

abbrev pub invariant-loop-change : goal.invariant-loop-change
invariant-loop-change g l =
    (text : List ℕ) × AreChangeLists (map change_in (take l.change-index l.changes)) text
    × Appends (g.W.Write.contents l.initial.writer) (g.W.Write.contents l.writer) text
