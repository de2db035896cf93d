use Rattle.std.proofs.Common.{◌≡◌, List, length}
use Rattle.tree_rewrite.specs.Marked.{Marked, join}
use Rattle.tree_rewrite.specs.Recorded.{target_of}
use Rattle.tree_rewrite.specs.Fill.{Given, HaveGiven, at_gap}
use Rattle.tree_rewrite.specs.Pieces.{Adds}
use Rattle.tree_rewrite.proofs.sheet.push_gap.Given as goal

abbrev pub invariant-loop-number : goal.invariant-loop-number
invariant-loop-number l = (gs : List Given) → HaveGiven l.overlay.jobs.now l.overlay.made.now l.numbers gs →
    (is : List Given) × (m : Marked) × HaveGiven l.overlay.jobs.now l.overlay.made.now l.rest is
    × Adds l.initial.pieces.items l.pieces.items m
    × (at_gap gs (target_of l.overlay.target) l.path l.index ≡ join m (at_gap is (target_of l.overlay.target) l.path l.index))

abbrev pub decreases-loop-number : goal.decreases-loop-number
decreases-loop-number l = length l.rest
