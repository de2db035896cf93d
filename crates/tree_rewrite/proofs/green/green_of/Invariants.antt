use Rattle.std.proofs.Common.{◌≡◌, drop}
use Rattle.tree_rewrite.specs.Pieces.{Stand, start, after}
use Rattle.tree_rewrite.specs.Growing.{IsMade, NewFitIn}
use Rattle.tree_rewrite.proofs.green.green_of.Given as goal

abbrev pub invariant-loop-piece : goal.invariant-loop-piece
invariant-loop-piece l = (s : Stand) × IsMade l.done.items l.around.items s × NewFitIn s × (after (drop l.piece-index l.pieces) s ≡ after l.pieces start)
