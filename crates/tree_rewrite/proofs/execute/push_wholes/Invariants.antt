use Rattle.std.proofs.Common.{◌≡◌, map, drop}
use Rattle.syntax_tree.specs.Handle.{element_of}
use Rattle.tree_rewrite.specs.Marked.{Marked, blank, join, readings_of}
use Rattle.tree_rewrite.specs.Pieces.{Adds}
use Rattle.tree_rewrite.proofs.execute.push_wholes.Given as goal

abbrev pub invariant-loop-element : goal.invariant-loop-element
invariant-loop-element l = (m : Marked) × Adds l.initial.pieces.items l.pieces.items m
    × (readings_of blank (map element_of l.elements) ≡ join m (readings_of blank (map element_of (drop l.element-index l.elements))))
