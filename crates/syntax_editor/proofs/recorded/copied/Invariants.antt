use Rattle.std.proofs.Common.{◌≡◌, map, take}
use Rattle.std.specs.List.{All}
use Rattle.tree_rewrite.specs.Recorded.{recorded, IsOrdered}
use Rattle.syntax_editor.proofs.recorded.copied.Given as goal

abbrev pub invariant-loop-change : goal.invariant-loop-change
invariant-loop-change l = (map recorded l.copies.items ≡ map recorded (take l.change-index l.changes)) × All IsOrdered l.copies.items
