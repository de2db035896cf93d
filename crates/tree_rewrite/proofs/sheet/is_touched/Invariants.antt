use Rattle.std.proofs.Common.{◌≡◌, List, length}
use Rattle.std.specs.List.{list_any}
use Rattle.syntax_tree.specs.Element.{Way}
use Rattle.tree_rewrite.specs.Recorded.{target_of}
use Rattle.tree_rewrite.specs.Fill.{Given, HaveGiven, is_deep_on}
use Rattle.tree_rewrite.proofs.SheetLemmas.{SameBelow}
use Rattle.tree_rewrite.proofs.sheet.is_touched.Given as goal

abbrev pub invariant-loop-number : goal.invariant-loop-number
invariant-loop-number l = (gs : List Given) → HaveGiven l.overlay.jobs.now l.overlay.made.now l.numbers gs → (is : List Given) × HaveGiven l.overlay.jobs.now l.overlay.made.now l.rest is
    × ((w : Way) → length w ≡ l.depth → SameBelow gs is (target_of l.overlay.target) w)
    × (list_any (is_deep_on (target_of l.overlay.target) l.depth) gs ≡ list_any (is_deep_on (target_of l.overlay.target) l.depth) is)

abbrev pub decreases-loop-number : goal.decreases-loop-number
decreases-loop-number l = length l.rest
