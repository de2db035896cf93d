use Rattle.std.proofs.Common.{◌≡◌, ◌++◌, map, drop}
use Rattle.syntax_tree.specs.Handle.{element_of}
use Rattle.tree_rewrite.specs.Came.{all_origins}
use Rattle.tree_rewrite.specs.Pieces.{Stand, start, after}
use Rattle.tree_rewrite.specs.Puts.{MarksPuts}
use Rattle.tree_rewrite.proofs.origins.origins_of.Given as goal

abbrev pub invariant-loop-piece : goal.invariant-loop-piece
invariant-loop-piece l =
    (map element_of l.elements.items ++ all_origins (drop l.piece-index l.pieces) ≡ all_origins l.pieces)
    × (s : Stand) × MarksPuts l.puts s × (after (drop l.piece-index l.pieces) s ≡ after l.pieces start)
