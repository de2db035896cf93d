-- What was passed is left out.
use Rattle.std.proofs.Common.{◌≡◌, ◌≤◌}
use Rattle.rowan_green.specs.Forest.{forest_count}
use Rattle.rowan_green.specs.Term.{forest_of}
use Rattle.rust_document.specs.Rewrite.{bare}
use Rattle.rust_document.proofs.bare.next_bare.Given as goal

abbrev pub invariant-children : goal.invariant-children
invariant-children l = record {
  gives : (goal.iterator-children).can_next l.children × (goal.iterator-children).is_finite l.children;
  same : bare (forest_of l.initial.children) ≡ bare (forest_of l.children);
  fewer : forest_count (forest_of l.children) ≤ forest_count (forest_of l.initial.children);
}
