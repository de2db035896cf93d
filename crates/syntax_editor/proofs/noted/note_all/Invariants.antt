use Rattle.std.proofs.Common.{◌-◌, length, map}
use Rattle.tree_rewrite.specs.Recorded.{recorded}
use Rattle.syntax_editor.specs.Noted.{AreNoted}
use Rattle.syntax_editor.proofs.noted.note_all.Given as goal

abbrev pub invariant-loop-noted : goal.invariant-loop-noted
invariant-loop-noted l = AreNoted l.singles l.noted (map recorded l.changes)

abbrev pub decreases-loop-noted : goal.decreases-loop-noted
decreases-loop-noted l = length l.changes - l.noted
