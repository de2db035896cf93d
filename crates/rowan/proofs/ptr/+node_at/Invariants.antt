use Rattle.std.proofs.Common.{◌≡◌, ◌-◌, length}
use Rattle.std.specs.List.{filter}
use Rattle.rowan.specs.Place.{term_at, terms_below, start_of, below}
use Rattle.rowan.specs.Around.{first}
use Rattle.rowan.specs.Pointer.{is_at, first_in}
use Rattle.rowan.proofs.Leaves.{count_in}
use Rattle.rowan.proofs.Pointers.{nodes_from}
use Rattle.rowan.proofs.ptr.+node_at.Given as goal

abbrev pub decreases-node_at : goal.decreases-node_at
decreases-node_at g l = count_in (term_at l.node.now)

abbrev pub invariant-loop-child : goal.invariant-loop-child
invariant-loop-child g l = record {
  at_offset : l.offset ≡ start_of (below l.node l.index);
  none_so_far : first_in (is_at g.L.Kind.PartialEq.eq g.L.Language.from_raw l.kind l.range.start.0 l.range.end.0) l.node ≡ first (filter (is_at g.L.Kind.PartialEq.eq g.L.Language.from_raw l.kind l.range.start.0 l.range.end.0) (nodes_from l.node l.index));
}

abbrev pub decreases-loop-child : goal.decreases-loop-child
decreases-loop-child g l = length (terms_below l.node) - l.index
