-- What is left to compare decides.
use Rattle.std.proofs.Common.{◌≡◌, ◌+◌, ◌<◌, ◌^◌, ◌≤◌, length}
use Rattle.rowan_green.specs.Forest.{forest_count, tree_count}
use Rattle.rowan_green.specs.Term.{forest_of, texts_of}
use Rattle.rust_document.specs.Difference.{first_apart, placed}
use Rattle.rust_document.proofs.difference.+apart_below.Given as goal

abbrev pub decreases-apart_below : goal.decreases-apart_below
decreases-apart_below l = tree_count l.wanted.now

abbrev pub invariant-children : goal.invariant-children
invariant-children l = record {
  decided : first_apart (placed l.wanted_at l.wanted.forest) (placed l.read_at l.read.forest) ≡ first_apart (placed l.left_at (forest_of l.left)) (placed l.right_at (forest_of l.right));
  within : forest_count (forest_of l.left) ≤ forest_count l.wanted.forest;
  left_fits : l.left_at + length (texts_of l.left) < 2 ^ 32;
  right_fits : l.right_at + length (texts_of l.right) < 2 ^ 32;
}

abbrev pub decreases-children : goal.decreases-children
decreases-children l = forest_count (forest_of l.left)
