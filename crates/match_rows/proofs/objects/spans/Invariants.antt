use Rattle.std.proofs.Common.{◌≡◌, take}
use Rattle.std.specs.List.{flat_map}
use Rattle.match_rows.specs.Objects.{span_item}
use Rattle.match_rows.proofs.objects.spans.Given as goal

abbrev pub invariant-loop-element : goal.invariant-loop-element
invariant-loop-element l = l.items.items ≡ flat_map span_item (take l.element-index l.elements)
