-- The node is still to come.
use Rattle.std.proofs.Common.{◌≡◌, if◌then◌else◌}
use Rattle.typed_nodes.specs.Parts.{after_token, first_node, node_after}
use Rattle.typed_nodes.proofs.after.node_after.Given as goal

abbrev pub invariant-loop-element : goal.invariant-loop-element
invariant-loop-element l =
    node_after l.kind l.fn.node ≡ first_node (if l.is_after then l.element-iterator else after_token l.kind l.element-iterator)
