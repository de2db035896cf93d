use Rattle.std.proofs.Common.{◌≡◌, ◌-◌, ◌≤◌, length, map, take, drop, option_map, option_copied}
use Rattle.rowan_green.specs.Forest.{Tree}
use Rattle.tree_rewrite.specs.Mapped.{images_to}
use Rattle.annotated_elements.specs.Following.{lead_at}
use Rattle.annotated_elements.specs.Nearest.{further_down}
use Rattle.annotated_elements.proofs.following.nearest.Given as goal

abbrev pub invariant-loop-image : goal.invariant-loop-image
invariant-loop-image l = record {
  within : l.below ≤ length l.way;
  images : (t : Tree) → map option_copied l.images.items ≡ images_to l.mapping l.tree t (drop l.below l.way);
  leads : (t : Tree) → option_map (further_down (take l.below l.way)) (lead_at l.mapping l.tree t (drop l.below l.way)) ≡ lead_at l.mapping l.tree t l.way;
}

abbrev pub decreases-loop-image : goal.decreases-loop-image
decreases-loop-image l = length l.way - l.below
