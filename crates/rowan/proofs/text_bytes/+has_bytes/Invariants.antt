use Rattle.std.proofs.Common.{◌≡◌, ◌+◌, ◌*◌, ◌≤◌, ◌&&◌, max, take, drop, length}
use Rattle.std.specs.Str.{bytes_eq}
use Rattle.rowan_green.specs.Forest.{tree_count, tree_text, forest_count}
use Rattle.rowan_green.specs.Term.{term_count}
use Rattle.rowan.specs.ChildParts.{range_of, rest_count}
use Rattle.rowan.specs.Matching.{outcome, pending_count}
use Rattle.rowan.proofs.text_bytes.+has_bytes.Given as goal

abbrev pub decreases-has_bytes : goal.decreases-has_bytes
decreases-has_bytes l = 4 * tree_count l.node

abbrev pub decreases-children_have : goal.decreases-children_have
decreases-children_have l = 4 * forest_count l.node.now.forest + 3

abbrev pub decreases-with_child : goal.decreases-with_child
decreases-with_child l = 4 * max (pending_count l.matching) (term_count l.child) + 2

abbrev pub decreases-with_node : goal.decreases-with_node
decreases-with_node l = 4 * max (pending_count l.matching) (tree_count l.node) + 1

-- what the rest says is what all says
abbrev pub invariant-has_bytes-down : goal.invariant-has_bytes-down
invariant-has_bytes-down l = record {
  answer : bytes_eq (take (length l.bytes) (drop l.fn.skip (tree_text l.fn.node))) l.bytes ≡ bytes_eq (take (length l.left) (drop l.offset (tree_text l.inside))) l.left;
  below : tree_count l.inside ≤ tree_count l.fn.node;
}

abbrev pub decreases-has_bytes-down : goal.decreases-has_bytes-down
decreases-has_bytes-down l = tree_count l.inside

-- the outcome so far and that of the rest are the outcome of all
abbrev pub invariant-children_have-loop-part : goal.invariant-children_have-loop-part
invariant-children_have-loop-part l = record {
  pending : pending_count l.matching + 1 ≤ tree_count l.node;
  below : rest_count l.part-iterator + 1 ≤ tree_count l.node;
  len : l.part-iterator.len ≡ length l.left;
  rest : (outcome l.matching && bytes_eq (range_of l.part-iterator) l.left) ≡ bytes_eq (take (length l.bytes) (drop l.skip (tree_text l.node))) l.bytes;
}
