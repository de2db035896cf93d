use Rattle.std.proofs.Common.{◌≡◌, ◌+◌, drop}
use Rattle.tree_rewrite.specs.Pieces.{Stand, start, after}
use Rattle.tree_rewrite.specs.Tracking.{Tracks, all_bytes}
use Rattle.tree_rewrite.proofs.changed.changed_of.Given as goal

abbrev pub invariant-loop-piece : goal.invariant-loop-piece
invariant-loop-piece l =
    (s : Stand) × Tracks l.tracker s × (after (drop l.piece-index l.pieces) s ≡ after l.pieces start) × (l.tracker.offset + all_bytes (drop l.piece-index l.pieces) ≡ all_bytes l.pieces)
