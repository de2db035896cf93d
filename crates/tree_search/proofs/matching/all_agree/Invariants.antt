-- What is left of places and bindings decides.
use Rattle.std.proofs.Common.{◌≡◌, length, map}
use Rattle.tree_search.specs.Matching.{all_agree}
use Rattle.tree_search.proofs.matching.all_agree.Given as goal

abbrev pub invariant-places : goal.invariant-places
invariant-places l = all_agree (map (λ x. x.text) l.initial.places) l.initial.bindings ≡ all_agree (map (λ x. x.text) l.places) l.bindings

abbrev pub decreases-places : goal.decreases-places
decreases-places l = length l.places
