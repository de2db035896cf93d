-- The elements so far, and those that the places that are left add.
use Rattle.std.proofs.Common.{◌≡◌, ◌++◌, ◌-◌, [], drop, length, map, take}
use Rattle.tree_search.specs.Search.{bound_elements}
use Rattle.tree_search.proofs.matches.bound_elements.Given as goal

abbrev pub invariant-places : goal.invariant-places
invariant-places l = bound_elements [] (map (λ x. x.text) l.places) l.bindings ≡ l.elements.items ++ bound_elements (map (λ x. x.text) (take l.at l.places)) (map (λ x. x.text) (drop l.at l.places)) (drop l.at l.bindings)

abbrev pub decreases-places : goal.decreases-places
decreases-places l = length l.places - l.at
