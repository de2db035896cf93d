use Rattle.std.proofs.Common.{◌≡◌, List, map, drop}
use Rattle.syntax_tree.specs.Handle.{element_of}
use Rattle.tree_rewrite.specs.Marked.{Marked, join, readings_of}
use Rattle.tree_rewrite.specs.Recorded.{target_of}
use Rattle.tree_rewrite.specs.Fill.{Given, laid, HaveGiven}
use Rattle.tree_rewrite.specs.Pieces.{Adds}
use Rattle.tree_rewrite.proofs.execute.push_all.Given as goal

abbrev pub invariant-loop-element : goal.invariant-loop-element
invariant-loop-element l = (gs : List Given) → HaveGiven l.overlay.jobs.now l.overlay.made.now l.numbers gs → (m : Marked)
    × Adds l.initial.pieces.items l.pieces.items m
    × (readings_of (laid gs (target_of l.overlay.target)) (map element_of l.elements)
    ≡ join m (readings_of (laid gs (target_of l.overlay.target)) (map element_of (drop l.element-index l.elements))))
