-- The first path is among the nodes that are left.
use Rattle.std.proofs.Common.{◌≡◌, slice_get}
use Rattle.std.specs.List.{filter}
use Rattle.rust_source.specs.Elements.{PATH, is_of_kind, nodes_at, nodes_left}
use Rattle.must_use_tool.proofs.is_must_use.Given as goal

abbrev pub invariant-loop-node : goal.invariant-loop-node
invariant-loop-node l =
    slice_get (filter (is_of_kind PATH) (nodes_at l.attribute)) 0 ≡ slice_get (filter (is_of_kind PATH) (nodes_left l.node-iterator)) 0
