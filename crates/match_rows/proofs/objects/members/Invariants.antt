-- The members so far, and those that the places that are left add.
use Rattle.std.proofs.Common.{◌≡◌, ◌++◌, ◌-◌, [], drop, length, map, take}
use Rattle.match_rows.specs.Objects.{members}
use Rattle.match_rows.proofs.objects.members.Given as goal

abbrev pub invariant-places : goal.invariant-places
invariant-places l = members [] l.places l.bindings ≡ l.out.items ++ members (map (λ x. x.text) (take l.at l.places)) (drop l.at l.places) (drop l.at l.bindings)

abbrev pub decreases-places : goal.decreases-places
decreases-places l = length l.places - l.at
