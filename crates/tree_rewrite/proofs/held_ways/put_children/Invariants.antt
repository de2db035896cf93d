use Rattle.std.proofs.Common.{◌≡◌, ◌≤◌, ◌-◌, Some}
use Rattle.tree_rewrite.specs.Held.{is_among, IsPut}
use Rattle.tree_rewrite.specs.WayTrie.{node_at, IsSound}
use Rattle.tree_rewrite.proofs.held_ways.put_children.Given as goal

abbrev pub invariant-loop-step : goal.invariant-loop-step
invariant-loop-step l = record {
  within : l.step ≤ l.more;
  sound : IsSound l.held;
  parent : node_at l.held l.above ≡ Some l.parent;
  put : IsPut (is_among l.start l.above l.step) l.number l.fn.held l.held;
}

abbrev pub decreases-loop-step : goal.decreases-loop-step
decreases-loop-step l = l.more - l.step
