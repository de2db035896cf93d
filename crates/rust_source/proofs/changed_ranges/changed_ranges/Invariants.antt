use Rattle.std.proofs.Common.{◌≡◌, ◌+◌, ◌<◌, ◌^◌, [], drop}
use Rattle.tree_rewrite.specs.Tracking.{all_bytes}
use Rattle.rust_source.specs.ChangedRanges.{at_start, between, changes_with, joined, standing, top_level, CanWalk}
use Rattle.rust_source.proofs.changed_ranges.changed_ranges.Given as goal

-- the texts stay, and agree so far; the pieces fit a text; the changed ranges so far and those that follow are those of all pieces
abbrev pub invariant-loop-piece : goal.invariant-loop-piece
invariant-loop-piece l =
    record {
      walk : CanWalk l.walk.agreement;
      before : l.walk.agreement.before.now ≡ l.fn.before;
      after : l.walk.agreement.after.now ≡ l.fn.after;
      bytes : all_bytes l.piece-items < 2 ^ 32;
      place : l.walk.place + all_bytes (drop l.piece-index l.piece-items) ≡ all_bytes l.piece-items;
      changes : changes_with l.walk (drop l.piece-index l.piece-items) ≡ between l.fn.before l.fn.after 0 0 (joined at_start (standing top_level [] 0 l.piece-items));
    }
