use Rattle.std.proofs.Common.{◌+◌, ◌*◌, ◌≤◌, length, IfSome}
use Rattle.rowan_green.specs.Forest.{tree_count, forest_count}
use Rattle.rowan_green.specs.Term.{forest_of}
use Rattle.rowan_green.proofs.+node_drop.Given as goal

abbrev pub invariant-element_list::ElementList::into_longest-down :
    goal.invariant-element_list::ElementList::into_longest-down
invariant-element_list::ElementList::into_longest-down l =
    forest_count (forest_of l.list.0) ≤ forest_count (forest_of l.fn.self.0)

abbrev pub invariant-node::GreenNode::drop-down : goal.invariant-node::GreenNode::drop-down
invariant-node::GreenNode::drop-down l = tree_count l.self ≤ tree_count l.initial.self

abbrev pub decreases-element_search::longest_node : goal.decreases-element_search::longest_node
decreases-element_search::longest_node l = 6 * forest_count (forest_of l.elements.items) + 5

abbrev pub invariant-element_search::longest_node-elements :
    goal.invariant-element_search::longest_node-elements
invariant-element_search::longest_node-elements l = record {
  below : forest_count (forest_of l.elements.items) ≤ forest_count (forest_of l.initial.elements.items);
  longest : IfSome l.longest (λ n. tree_count n ≤ forest_count (forest_of l.initial.elements.items));
}

abbrev pub decreases-element_search::longest_node-elements :
    goal.decreases-element_search::longest_node-elements
decreases-element_search::longest_node-elements l = length l.elements.items

abbrev pub decreases-element_list::ElementList::into_longest :
    goal.decreases-element_list::ElementList::into_longest
decreases-element_list::ElementList::into_longest l =
    goal.size-element_list::ElementList::into_longest l

abbrev pub decreases-node::GreenNode::drop : goal.decreases-node::GreenNode::drop
decreases-node::GreenNode::drop l = goal.size-node::GreenNode::drop l
