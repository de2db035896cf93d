-- The changes so far are renames.
use Rattle.std.proofs.Common.{map, take}
use Rattle.tree_rewrite.specs.Recorded.{recorded}
use Rattle.rust_document.specs.Renames.{AreRenames}
use Rattle.rust_document.proofs.document.Document.are_renames.Given as goal

abbrev pub invariant-loop-change : goal.invariant-loop-change
invariant-loop-change l = AreRenames l.self (map recorded (take l.change-index l.changes))
