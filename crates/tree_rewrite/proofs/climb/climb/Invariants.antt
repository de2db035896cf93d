use Rattle.std.proofs.Common.{◌≡◌, length, map, option_copied, Option}
use Rattle.rowan_green.specs.Forest.{Tree}
use Rattle.syntax_tree.specs.Element.{Way, Element}
use Rattle.tree_rewrite.specs.Moved.{way_up}
use Rattle.tree_rewrite.specs.Climbing.{StandsAt, after_numbers}
use Rattle.tree_rewrite.specs.Mapped.{images_to}
use Rattle.tree_rewrite.proofs.climb.climb.Given as goal

abbrev pub invariant-loop-rest : goal.invariant-loop-rest
invariant-loop-rest l = record {
  images : (t : Tree) → map option_copied l.images.items ≡ images_to l.mapping l.tree t l.rest;
  climbed : (on : Element → Option Way) (b : Element) (t : Tree) → StandsAt b l.goal.tree l.goal.way.now →
      after_numbers l.initial.numbers.items (way_up on l.mapping b l.tree t l.way)
      ≡ after_numbers l.numbers.items (way_up on l.mapping b l.tree t l.rest);
}

abbrev pub decreases-loop-rest : goal.decreases-loop-rest
decreases-loop-rest l = length l.rest
