use Rattle.std.proofs.Common.{◌≡◌, ◌++◌, ◌<◌, map}
use Rattle.rowan_green.specs.Forest.{tree_count, forest_count}
use Rattle.rowan_green.specs.Term.{children_of, forest_of}
use Rattle.tree_indent.specs.Shifted.{shifted_tree, FitsForest, FitsTree}
use Rattle.tree_indent.proofs.Shifting.{shifted_term, FitsTerms}
use Rattle.tree_indent.proofs.trees.+shifted_tree.Given as goal

abbrev pub decreases-shifted_tree : goal.decreases-shifted_tree
decreases-shifted_tree l = tree_count l.node.now

-- the finished children and the remaining ones are all; the finished ones are within the limits, and there are fewer of them than terms of the node
abbrev pub invariant-loop-child : goal.invariant-loop-child
invariant-loop-child l = record {
  can : (goal.iterator-loop-child).can_next l.child-iterator;
  finite : (goal.iterator-loop-child).is_finite l.child-iterator;
  same : l.children.items ++ map (shifted_term l.shift) l.child-iterator ≡ map (shifted_term l.shift) (children_of l.node);
  below : forest_count (forest_of l.child-iterator) < tree_count l.node;
  made : FitsForest (forest_of l.children.items);
  fits : FitsTree (shifted_tree l.shift l.node) → FitsTerms l.shift l.child-iterator;
}
