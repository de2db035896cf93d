use Rattle.std.proofs.Common.{◌≡◌, List, Option, length, take}
use Rattle.syntax_tree.specs.Element.{Way}
use Rattle.tree_rewrite.specs.Fill.{Given, HaveGiven}
use Rattle.tree_rewrite.specs.Below.{lists_of, AreLists}
use Rattle.tree_rewrite.proofs.lists.lists_below.Given as goal

abbrev pub invariant-loop-number : goal.invariant-loop-number
invariant-loop-number l = (length l.lists.items ≡ l.count)
    × ((gs : List Given) (n : Option Way) (w : Way) → HaveGiven l.overlay.jobs.now l.overlay.made.now (take l.number-index l.numbers) gs → length w ≡ l.depth
    → AreLists l.overlay.jobs.now l.overlay.made.now (lists_of l.lists.items) n w gs)
