-- What is left of places and bindings decides.
use Rattle.std.proofs.Common.{◌≡◌, length, map}
use Rattle.tree_search.specs.Matching.{agrees}
use Rattle.tree_search.proofs.matching.agrees.Given as goal

abbrev pub invariant-places : goal.invariant-places
invariant-places l = agrees l.name l.binding (map (λ x. x.text) l.initial.places) l.initial.bindings ≡ agrees l.name l.binding (map (λ x. x.text) l.places) l.bindings

abbrev pub decreases-places : goal.decreases-places
decreases-places l = length l.places
