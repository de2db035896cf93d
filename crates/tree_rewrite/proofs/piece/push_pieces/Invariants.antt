use Rattle.std.proofs.Common.{◌≡◌, ◌++◌, take}
use Rattle.tree_rewrite.proofs.piece.push_pieces.Given as goal

abbrev pub invariant-loop-piece : goal.invariant-loop-piece
invariant-loop-piece l = l.to.items ≡ l.initial.to.items ++ take l.piece-index l.from
