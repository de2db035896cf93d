use Rattle.std.proofs.Common.{◌≡◌, take}
use Rattle.std.specs.List.{flat_map}
use Rattle.match_rows.specs.Objects.{match_item}
use Rattle.match_rows.proofs.objects.push_matches.Given as goal

abbrev pub invariant-loop-found : goal.invariant-loop-found
invariant-loop-found l = l.items.items ≡ flat_map (match_item l.places.items l.index) (take l.found-index l.matches)
