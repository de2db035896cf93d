use Rattle.std.proofs.Common.{◌≡◌, List, length}
use Rattle.tree_rewrite.specs.Marked.{slot}
use Rattle.tree_rewrite.specs.Recorded.{target_of}
use Rattle.tree_rewrite.specs.Fill.{Given, laid, HaveGiven}
use Rattle.tree_rewrite.proofs.sheet.push_slot.Given as goal

abbrev pub invariant-loop-number : goal.invariant-loop-number
invariant-loop-number l = (gs : List Given) → HaveGiven l.overlay.jobs.now l.overlay.made.now l.numbers gs →
    (is : List Given) × HaveGiven l.overlay.jobs.now l.overlay.made.now l.rest is × (laid gs (target_of l.overlay.target) (slot l.path) ≡ laid is (target_of l.overlay.target) (slot l.path))
    × (l.pieces.items ≡ l.initial.pieces.items)

abbrev pub decreases-loop-number : goal.decreases-loop-number
decreases-loop-number l = length l.rest
