use Rattle.std.proofs.Common.{◌≡◌, take, false}
use Rattle.tree_rewrite.specs.Change.{has_collision}
use Rattle.tree_rewrite.specs.Held.{Holds}
use Rattle.tree_rewrite.specs.WayTrie.{IsSound}
use Rattle.tree_rewrite.proofs.held_ways.held_ways.Given as goal

abbrev pub invariant-loop-number : goal.invariant-loop-number
invariant-loop-number l = record {
  sound : IsSound l.held;
  holds : Holds l.held (take l.number l.changes);
  apart : has_collision (take l.number l.changes) ≡ false;
}
