-- The argument is among the nodes that are left.
use Rattle.std.proofs.Common.{◌≡◌, slice_get}
use Rattle.std.specs.List.{filter}
use Rattle.rust_source.specs.Elements.{nodes_left}
use Rattle.extract_tool.specs.Extracts.{argument_of, is_argument}
use Rattle.extract_tool.proofs.argument.Given as goal

abbrev pub invariant-loop-node : goal.invariant-loop-node
invariant-loop-node l =
    argument_of l.root l.number ≡ slice_get (filter is_argument (nodes_left l.node-iterator)) l.left
