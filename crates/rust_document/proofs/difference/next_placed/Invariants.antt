-- What was passed is left out.
use Rattle.std.proofs.Common.{◌≡◌, ◌+◌, ◌≤◌, length}
use Rattle.rowan_green.specs.Forest.{forest_count}
use Rattle.rowan_green.specs.Term.{forest_of, texts_of}
use Rattle.rust_document.specs.Difference.{placed}
use Rattle.rust_document.proofs.difference.next_placed.Given as goal

abbrev pub invariant-children : goal.invariant-children
invariant-children l = record {
  gives : (goal.iterator-children).can_next l.children × (goal.iterator-children).is_finite l.children;
  same : placed l.initial.at (forest_of l.initial.children) ≡ placed l.at (forest_of l.children);
  left : l.at + length (texts_of l.children) ≡ l.initial.at + length (texts_of l.initial.children);
  fewer : forest_count (forest_of l.children) ≤ forest_count (forest_of l.initial.children);
}
