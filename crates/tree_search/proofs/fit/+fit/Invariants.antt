-- What is left of the pattern and of the elements decides.
use Rattle.std.proofs.Common.{◌≡◌, ◌+◌, ◌*◌, ◌≤◌}
use Rattle.rowan_green.specs.Forest.{forest_count}
use Rattle.rowan_green.specs.Term.{forest_of}
use Rattle.tree_search.specs.Fit.{fit}
use Rattle.tree_search.proofs.fit.+fit.Given as goal

abbrev pub decreases-fit : goal.decreases-fit
decreases-fit l = 2 * forest_count l.wanted.now.forest

abbrev pub decreases-fit_element : goal.decreases-fit_element
decreases-fit_element l = 2 * forest_count l.wanted.now.forest + 1

abbrev pub invariant-fit-children : goal.invariant-fit-children
invariant-fit-children l = record {
  gives : (goal.iterator-fit-children).can_next l.left × (goal.iterator-fit-children).is_finite l.left;
  answer : fit l.wanted.forest l.initial.elements l.initial.bound.items ≡ fit (forest_of l.left) l.elements l.bound.items;
  within : forest_count (forest_of l.left) ≤ forest_count l.wanted.forest;
}

abbrev pub decreases-fit-children : goal.decreases-fit-children
decreases-fit-children l = forest_count (forest_of l.left)
