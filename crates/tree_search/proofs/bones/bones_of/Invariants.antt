-- The bones that were found, and those among the children that are left.
use Rattle.std.proofs.Common.{◌≡◌, ◌++◌}
use Rattle.std.specs.List.{filter}
use Rattle.rowan.specs.Place.{kind_at}
use Rattle.tree_patterns.specs.Bones.{is_bone}
use Rattle.tree_search.specs.Elements.{bones_of, kind_of}
use Rattle.tree_search.proofs.bones.bones_of.Given as goal

abbrev pub invariant-loop-child : goal.invariant-loop-child
invariant-loop-child l = record {
  found : l.bones.items ++ filter (λ c. is_bone (kind_at l.node.place) (kind_of c)) l.child-iterator ≡ bones_of l.node;
  kind : l.kind ≡ kind_at l.node.place;
}
